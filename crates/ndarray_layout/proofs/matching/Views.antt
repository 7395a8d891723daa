-- A reshape by what is known of the two shapes.
use Rattle.std.proofs.Common.{◌≡◌, ℕ, zero, suc, ◌≤◌, pos, Bool, true, false, not, cond, ltb, Option, Some, None, Result, Ok, Err}
use Rattle.std.proofs.Common.{List, ◌∷◌, length, replicate, refl, sym, ap, ◌∙◌}
use Rattle.std.proofs.Math.Bool.{beq}
use Rattle.std.proofs.lemmas.Bool.{le-ltb, ltb-false}
use Rattle.std.specs.Prelude.{IfErr}
use Rattle.nd_base.specs.declared.error.ErrorKind.TheVariants.{Overflow}
use Rattle.nd_base.specs.declared.error.LayoutError.{LayoutError}
use Rattle.nd_base.specs.declared.error.LayoutError.TheVariants.{Shape, Memory}
use Rattle.nd_base.specs.declared.order.Order.{Order}
use Rattle.nd_base.proofs.Laws.Definitions.{NeedsNoMemory, all_signed, is_empty, limit, nonzero_size}
use Rattle.ndarray_layout.specs.reshape.ForcedStrides.{forced_strides}
use Rattle.ndarray_layout.specs.reshape.ReshapeFault.{IsErrorFor, IsOfShape, reshape_fault}
use Rattle.ndarray_layout.specs.ReshapedView.{IsReshapeError, reshaped_strides, view_reshape_fault}
use Rattle.ndarray_layout.specs.View.{View}

-- tests that don't differ are the same
same_bits : (a b : Bool) → not (beq a b) ≡ false → a ≡ b
same_bits true true same = refl
same_bits true false same = absurd (cc)
same_bits false true same = absurd (cc)
same_bits false false same = refl

-- so where neither shape alone has an index, both have one or none has
pub both_are : {here there b : Bool} {lens shape from to : List ℕ} → here ≡ is_empty lens → there ≡ is_empty shape
    → lens ≡ from → shape ≡ to
    → not (beq here there) ≡ false → here ≡ b → (is_empty from ≡ b) × (is_empty to ≡ b)
both_are {here = here} {there = there} value also lens shape same is =
    (ap is_empty (sym lens) ∙ sym value ∙ is, ap is_empty (sym shape) ∙ sym also ∙ sym (same_bits here there same) ∙ is)

-- the test of the size
pub within_limit : (n : ℕ) → None ≡ cond (ltb limit n) (Some Overflow) None → n ≤ limit
within_limit n none = by (ltb limit n) refl none
  where
    by : (large : Bool) → ltb limit n ≡ large → None ≡ cond large (Some Overflow) None → n ≤ limit
    by true e none = absurd (cc)
    by false e none = ltb-false limit n e

-- a shape and a view that both have an index
pub record HaveIndices (shape : List ℕ) (view : View) : Type 0 where
  pub fits : nonzero_size shape ≤ limit
  pub some : is_empty view.shape ≡ false
  pub more : is_empty shape ≡ false

pub view_fault_between : (order : Order) {shape : List ℕ} {view : View} → HaveIndices shape view
    → view_reshape_fault order shape view ≡ reshape_fault order view.shape view.strides shape
view_fault_between order {shape} both = rw (le-ltb limit (nonzero_size shape) both.fits, both.some, both.more) refl

pub error_between : {X : Type 0} (result : Result X LayoutError) (fixed : Option ℕ) (order : Order) {shape : List ℕ} {view : View}
    → HaveIndices shape view → IfErr result (λ e. IsErrorFor (reshape_fault order view.shape view.strides shape) e)
    → (NeedsNoMemory fixed (length shape) → IfErr result IsOfShape) → IfErr result (λ e. IsReshapeError fixed order shape view e)
error_between (Ok x) fixed order both failed memory = tt
error_between (Err (Shape kind)) fixed order both failed memory = view_fault_between order both ∙ failed
error_between (Err (Memory e)) fixed order both failed memory = ((both.fits, both.more ∙ sym both.some), memory)

pub strides_between : (order : Order) {shape : List ℕ} {view : View} → HaveIndices shape view
    → reshaped_strides order shape view ≡ forced_strides order view.shape view.strides shape
strides_between order both = rw both.more refl

-- neither has one
zeros_signed : (n : ℕ) → all_signed (replicate n 0) ≡ replicate n (pos 0)
zeros_signed zero = refl
zeros_signed (suc n) = ap (λ zs. pos 0 ∷ zs) (zeros_signed n)

pub strides_of_none : (order : Order) (shape : List ℕ) (view : View) → is_empty shape ≡ true
    → all_signed (replicate (length shape) 0) ≡ reshaped_strides order shape view
strides_of_none order shape view nothing = rw nothing (zeros_signed (length shape))
