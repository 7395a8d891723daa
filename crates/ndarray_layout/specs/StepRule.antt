-- The rule of a step from one view to the next: which views it fits, what it makes of them, and why it is not taken.
use Rattle.std.specs.Prelude.{◌≡◌, ℕ, ◌<◌, pos, Bool, true, false, nat_lt, Option, Some, None, if◌then◌else◌, List, [], ◌∷◌, refl}
use Rattle.std.proofs.Common.{suc-ne-zero}
use Rattle.std.proofs.Math.Dec.{lit<, lt→ltb}
use Rattle.nd_base.specs.declared.error.ErrorKind.{ErrorKind}
use Rattle.nd_base.specs.declared.error.ErrorKind.TheVariants.{OutOfBounds}
use Rattle.nd_base.specs.declared.error.LayoutError.{LayoutError}
use Rattle.nd_base.specs.declared.error.LayoutError.TheVariants.{Shape, Memory}
use Rattle.nd_base.specs.declared.lengths.TheConstants.{INLINE_AXES}
use Rattle.ndarray_layout.specs.View.{View}

-- what a step says of any view
pub record StepRule : Type 1 where
  -- the fault where it doesn't fit the view
  pub fault : View → Option ErrorKind
  -- it fits the view
  pub fits : View → Type 0
  -- what it makes of a view that it fits
  pub view : View → View
  -- which index of the view an index after the step stands for
  pub source : View → List ℕ → List ℕ
  -- whether coordinates may stand for one and the same coordinate after it
  pub is_broadcast : Bool
  -- of how many lengths it makes a list; 0 where it makes none
  pub listed : ℕ
  -- what is known where it asks for the memory of that list
  pub asks : View → Type 0

-- memory may be wanted where a step makes a list of more than four lengths (`INLINE_AXES`)
abbrev pub may_want_memory : StepRule → Bool
may_want_memory rule = nat_lt INLINE_AXES rule.listed

-- what is known where an allocation fails to a step: it asks for the memory of more than four lengths
abbrev pub MayLackMemory : StepRule → View → Type 0
MayLackMemory rule view = rule.asks view × (INLINE_AXES < rule.listed)

-- why a step is not taken: it doesn't fit, for this fault, or memory is lacking to a step that may want it
abbrev pub IsStepError : StepRule → View → LayoutError → Type 0
IsStepError rule view (Shape kind) = (rule.fault view ≡ Some kind) × ¬ rule.fits view
IsStepError rule view (Memory e) = MayLackMemory rule view

-- examples: a step that fits views from the first place on, and another one that lists five lengths
abbrev from_the_first : ℕ → StepRule
from_the_first listed = record {
  fault = λ view. if nat_lt 0 view.start then Some OutOfBounds else None;
  fits = λ view. view.start ≡ 0;
  view = λ view. view;
  source = λ view index. index;
  is_broadcast = false;
  listed = listed;
  asks = λ view. view.start ≡ 0;
}

abbrev line : ℕ → View
line start = record { start = start; shape = 3 ∷ []; strides = pos 1 ∷ [] }

second_place : IsStepError (from_the_first 0) (line 1) (Shape OutOfBounds)
second_place = (refl, suc-ne-zero 0)

first_place : IsStepError (from_the_first 0) (line 0) (Shape OutOfBounds) → ⊥
first_place failed = failed.1 refl

four_lengths_need_no_memory : may_want_memory (from_the_first 4) ≡ false
four_lengths_need_no_memory = refl

five_lengths_may_want_some : may_want_memory (from_the_first 5) ≡ true
five_lengths_may_want_some = refl

no_memory_for_five : MayLackMemory (from_the_first 5) (line 0)
no_memory_for_five = (refl, lit< tt)

no_memory_for_four : MayLackMemory (from_the_first 4) (line 0) → ⊥
no_memory_for_four failed = lt→ltb 4 4 failed.1
