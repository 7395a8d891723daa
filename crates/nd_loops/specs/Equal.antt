-- Whether two arrays have the same shape, and equal items at each index.
use Rattle.std.specs.Prelude.{◌≡◌, ℕ, pos, Bool, true, false, ◌&&◌, nat_eq, Option, Some, None, List, [], ◌∷◌, map, refl}
use Rattle.std.specs.Cmp.Lexicographic.{pointwise}
use Rattle.ndarray_layout.specs.declared.Order.TheVariants.{RowMajor}
use Rattle.ndarray_layout.specs.View.{view_places}
use Rattle.nd_access.specs.Items.{ArrayValue, item_at_place}

-- there are two items, and they are equal
abbrev pub both_equal : {T U : Type 0} → (T → U → Bool) → Option T → Option U → Bool
both_equal eq (Some x) (Some y) = eq x y
both_equal eq (Some x) None = false
both_equal eq None other = false

-- the shapes are equal, and so is each item to that at the same index
abbrev pub are_equal : {T U : Type 0} → (T → U → Bool) → ArrayValue T → ArrayValue U → Bool
are_equal eq one other = pointwise nat_eq one.view.shape other.view.shape
    && pointwise (both_equal eq) (map (item_at_place one.items) (view_places RowMajor one.view))
    (map (item_at_place other.items) (view_places RowMajor other.view))

-- examples
abbrev row : List ℕ → ArrayValue ℕ
row items = record { items = items; view = record { start = 0; shape = 2 ∷ []; strides = pos 1 ∷ [] } }

spare_ones_apart : are_equal nat_eq (row (7 ∷ 8 ∷ 9 ∷ [])) (row (7 ∷ 8 ∷ [])) ≡ true
spare_ones_apart = refl

another_item : are_equal nat_eq (row (7 ∷ 8 ∷ [])) (row (7 ∷ 9 ∷ [])) ≡ false
another_item = refl
