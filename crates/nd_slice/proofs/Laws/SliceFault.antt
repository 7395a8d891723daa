-- What no fault of a slice argument means: an element for each axis, of which each fits.
use Rattle.std.proofs.Common.{true, false, refl, ◌≡◌, ℕ, zero, suc, ℤ, Bool, ◌==◌, if◌then◌else◌, Option, Some, None, List, [], ◌∷◌, length}
use Rattle.std.proofs.Common.{arith}
use Rattle.std.specs.List.{All}
use Rattle.std.specs.Prelude.{IsSomeAnd, slice_get}
use Rattle.std.proofs.lemmas.List.Elements.{All-cons}
use Rattle.std.proofs.lemmas.Bool.{eqb-true}
use Rattle.nd_base.specs.declared.error.ErrorKind.{ErrorKind}
use Rattle.nd_base.specs.declared.error.ErrorKind.TheVariants.{IncompatibleShape}
use Rattle.nd_slice.proofs.Definitions.{Fit, IndexFits, Slice, SliceFits, SliceInfoElem, argument_fault, first_fault, in_count}
use Rattle.nd_slice.proofs.Definitions.{index_fault, slice_fault, slices_fault}
use Rattle.nd_slice.specs.declared.elem.SliceInfoElem.TheVariants as elem
use Rattle.nd_base.proofs.Laws.Options.{option_or_none}
use Rattle.nd_slice.proofs.Laws.AxisFault.{fits_of_no_fault, index_fits_of_no_fault}

-- an argument whose first element is a slice
pub slice_of_no_fault : (fit : Fit) (len : ℕ) (shape : List ℕ) (slice : Slice) (elems : List SliceInfoElem)
    → first_fault fit (len ∷ shape) (elem.Slice slice.start slice.end slice.step ∷ elems) ≡ None
    → SliceFits fit len slice × (first_fault fit shape elems ≡ None)
slice_of_no_fault fit len shape slice elems none =
    let parts = option_or_none (slice_fault fit len slice) none in
    (fits_of_no_fault fit len slice parts.0, parts.1)

-- an argument whose first element is an index
pub index_of_no_fault : (fit : Fit) (len : ℕ) (shape : List ℕ) (index : ℤ) (elems : List SliceInfoElem)
    → first_fault fit (len ∷ shape) (elem.Index index ∷ elems) ≡ None → IndexFits len index × (first_fault fit shape elems ≡ None)
index_of_no_fault fit len shape index elems none =
    let parts = option_or_none (index_fault len index) none in
    (index_fits_of_no_fault len index parts.0, parts.1)

counted : (same : Bool) (first : Option ErrorKind) → (if same then first else Some IncompatibleShape) ≡ None
    → (same ≡ true) × (first ≡ None)
counted true first none = (refl, none)
counted false first none = absurd (cc)

-- an argument without fault has an element for each axis, and none of them is at fault
pub elements_of_no_fault : (fit : Fit) (shape : List ℕ) (elems : List SliceInfoElem) → argument_fault fit shape elems ≡ None
    → (in_count elems ≡ length shape) × (first_fault fit shape elems ≡ None)
elements_of_no_fault fit shape elems none =
    let parts = counted (in_count elems == length shape) (first_fault fit shape elems) none in
    (eqb-true (in_count elems) (length shape) parts.0, parts.1)

-- each of a list of arguments without fault is one
pub each_fits : (fit : Fit) (shape : List ℕ) (slices : List (List SliceInfoElem)) → slices_fault fit shape slices ≡ None
    → All (λ slice. argument_fault fit shape slice ≡ None) slices
each_fits fit shape [] none = λ k d below. absurd (omega arith)
each_fits fit shape (slice ∷ slices) none =
    let parts = option_or_none (argument_fault fit shape slice) none in
    All-cons (λ one. argument_fault fit shape one ≡ None) slice slices parts.0 (each_fits fit shape slices parts.1)

-- what follows for arguments without fault follows for the one at a position
pub on_fitting : (fit : Fit) (shape : List ℕ) (slices : List (List SliceInfoElem)) (i : ℕ) {P Q : List SliceInfoElem → Type 0}
    → slices_fault fit shape slices ≡ None → ((slice : List SliceInfoElem) → argument_fault fit shape slice ≡ None → P slice → Q slice)
    → IsSomeAnd (slice_get slices i) P → IsSomeAnd (slice_get slices i) Q
on_fitting fit shape [] i none follows known = absurd known
on_fitting fit shape (slice ∷ slices) zero none follows known =
    follows slice (option_or_none (argument_fault fit shape slice) none).0 known
on_fitting fit shape (slice ∷ slices) (suc i) none follows known =
    on_fitting fit shape slices i (option_or_none (argument_fault fit shape slice) none).1 follows known
