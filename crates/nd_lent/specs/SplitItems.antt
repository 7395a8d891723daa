-- The two parts of a view along an axis, each over items of its own: where there are such, and what they show.
use Rattle.std.specs.Prelude.{◌≡◌, ℕ, ◌+◌, ◌-◌, pos, negsuc, Bool, true, ◌||◌, nat_eq, nat_lt, Option, Some, None, Result, Ok, Err}
use Rattle.std.specs.Prelude.{if◌then◌else◌, List, [], ◌∷◌, unwrap_or, refl}
use Rattle.std.specs.Option.{option_or}
use Rattle.std.proofs.Common.{ap, eq-eqb}
use Rattle.std.proofs.lemmas.Bool.{both_ways}
use Rattle.ndarray_layout.specs.declared.ErrorKind.{ErrorKind}
use Rattle.ndarray_layout.specs.declared.ErrorKind.TheVariants.{IncompatibleLayout, OutOfBounds}
use Rattle.ndarray_layout.specs.declared.LayoutError.{LayoutError}
use Rattle.ndarray_layout.specs.declared.LayoutError.TheVariants.{Shape, Memory}
use Rattle.ndarray_layout.specs.Indices.{is_index}
use Rattle.ndarray_layout.specs.Size.{is_empty}
use Rattle.ndarray_layout.specs.Span.{high_span, low_span}
use Rattle.ndarray_layout.specs.SplitView.{first_part_of, second_part_of, split_fault}
use Rattle.ndarray_layout.specs.View.{View}
use Rattle.nd_access.specs.Items.{ArrayValue, item_at}

-- the lowest place of a view with an index
abbrev pub lowest : View → ℕ
lowest view = view.start - low_span view.shape view.strides

-- the highest one
abbrev pub highest : View → ℕ
highest view = view.start + high_span view.shape view.strides

-- each place of one view is below each place of another
abbrev pub lies_below : View → View → Bool
lies_below one other = nat_lt (highest one) (lowest other)

-- one of two views has no place, or its places are all below those of the other
abbrev pub lie_apart : View → View → Bool
lie_apart one other = (is_empty one.shape || is_empty other.shape) || (lies_below one other || lies_below other one)

-- the fault of parts that are to have items of their own: that of the split, then IncompatibleLayout where their places interleave
abbrev pub split_items_fault : ℕ → ℕ → View → Option ErrorKind
split_items_fault axis index view =
    option_or (split_fault view.shape axis index)
    (if lie_apart (first_part_of axis index view) (second_part_of axis index view) then None else Some IncompatibleLayout)

-- an allocation failed
abbrev pub IsMemory : {X : Type 0} → Result X LayoutError → Type 0
IsMemory (Ok x) = ⊥
IsMemory (Err (Shape kind)) = ⊥
IsMemory (Err (Memory e)) = Unit {0}

-- the same view over items of which so many before it are left out
pub record IsMoved (by : ℕ) (old new : View) : Type 0 where
  pub shape : new.shape ≡ old.shape
  pub strides : new.strides ≡ old.strides
  pub start : old.start ≡ by + new.start

-- each index of an array over some of the items has the item of the index of the whole that it stands for, its source
abbrev pub ShowsPartOf : {T : Type 0} → (List ℕ → List ℕ) → ArrayValue T → ArrayValue T → Type 0
ShowsPartOf source whole part = (index : List ℕ) → is_index part.view.shape index ≡ true
    → (is_index whole.view.shape (source index) ≡ true) × (item_at part index ≡ item_at whole (source index))

-- examples
abbrev two_by_two : View
two_by_two = record { start = 1; shape = 2 ∷ 2 ∷ []; strides = pos 3 ∷ pos 1 ∷ [] }

rows_apart : split_items_fault 0 1 two_by_two ≡ None
rows_apart = refl

columns_interleave : split_items_fault 1 1 two_by_two ≡ Some IncompatibleLayout
columns_interleave = refl

no_column_apart : split_items_fault 1 2 two_by_two ≡ None
no_column_apart = refl

past_the_columns : split_items_fault 1 3 two_by_two ≡ Some OutOfBounds
past_the_columns = refl

last_row_below : split_items_fault 0 1 (record { start = 3; shape = 2 ∷ 2 ∷ []; strides = negsuc 1 ∷ pos 1 ∷ [] }) ≡ None
last_row_below = refl

rows_that_touch : split_items_fault 0 1 (record { start = 0; shape = 2 ∷ 2 ∷ []; strides = pos 1 ∷ pos 1 ∷ [] }) ≡ Some IncompatibleLayout
rows_that_touch = refl

left_out_twice : IsMoved 1 two_by_two two_by_two → ⊥
left_out_twice moved = both_ways (nat_eq 1 2) refl (eq-eqb 1 2 moved.start)

abbrev whole : ArrayValue ℕ
whole = record { items = 7 ∷ 8 ∷ 9 ∷ []; view = record { start = 0; shape = 3 ∷ []; strides = pos 1 ∷ [] } }

abbrev second : ArrayValue ℕ
second = record { items = 8 ∷ 9 ∷ []; view = record { start = 0; shape = 2 ∷ []; strides = pos 1 ∷ [] } }

each_for_itself : ShowsPartOf (λ index. index) whole second → ⊥
each_for_itself shows =
    both_ways (nat_eq 8 7) refl (eq-eqb 8 7 (ap (λ item. unwrap_or item 0) ((shows (0 ∷ []) refl).1)))
