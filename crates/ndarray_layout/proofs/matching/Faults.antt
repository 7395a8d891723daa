-- Why a reshape fails, by its joints and sizes.
use Rattle.std.proofs.Common.{◌≡◌, ◌≢◌, ℕ, ◌==◌, Bool, true, false, ℤ, List, refl, ap, ap₂, Option, Some, None}
use Rattle.std.specs.Prelude.{if◌then◌else◌}
use Rattle.std.proofs.lemmas.Bool.{eq-eqb, eqb-true, ne_eqb}
use Rattle.nd_base.specs.declared.error.ErrorKind.{ErrorKind}
use Rattle.nd_base.specs.declared.error.ErrorKind.TheVariants.{IncompatibleShape, IncompatibleLayout}
use Rattle.nd_base.proofs.Laws.Definitions.{size}
use Rattle.ndarray_layout.specs.reshape.Joints.{has_bad_joint}
use Rattle.ndarray_layout.specs.reshape.ReshapeFault.{fault_as_read}
use Rattle.ndarray_layout.specs.private.ReshapeProgress.{Layouts, fault_of}

-- by the two tests
abbrev fault_by : Bool → Bool → Option ErrorKind
fault_by bad same = if bad then Some IncompatibleLayout else (if same then None else Some IncompatibleShape)

none-by : (bad same : Bool) → fault_by bad same ≡ None → (bad ≡ false) × (same ≡ true)
none-by true same none = absurd (cc)
none-by false true none = (refl, refl)
none-by false false none = absurd (cc)

module _ (from : List ℕ) (strides : List ℤ) (to : List ℕ) where
  pub fault-none : size from ≡ size to → has_bad_joint from strides to ≡ false → fault_as_read from strides to ≡ None
  fault-none sizes good = ap₂ fault_by good (eq-eqb (size from) (size to) sizes)

  pub fault-shape : has_bad_joint from strides to ≡ false → size from ≢ size to → fault_as_read from strides to ≡ Some IncompatibleShape
  fault-shape good differ = ap₂ fault_by good (ne_eqb (size from) (size to) differ)

  pub fault-layout : has_bad_joint from strides to ≡ true → fault_as_read from strides to ≡ Some IncompatibleLayout
  fault-layout bad = ap (λ b. fault_by b (size from == size to)) bad

  -- what a reshape without one has
  pub none-parts : fault_as_read from strides to ≡ None → (size from ≡ size to) × (has_bad_joint from strides to ≡ false)
  none-parts none =
      let parts = none-by (has_bad_joint from strides to) (size from == size to) none in
      (eqb-true (size from) (size to) parts.1, parts.0)

pub fault-same : (both rest : Layouts) → has_bad_joint both.from both.strides both.to ≡ has_bad_joint rest.from rest.strides rest.to
    → (size both.from == size both.to) ≡ (size rest.from == size rest.to) → fault_of both ≡ fault_of rest
fault-same both rest bad same = ap₂ fault_by bad same
