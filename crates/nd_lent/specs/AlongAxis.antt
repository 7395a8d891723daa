-- The arrays at the coordinates of an axis, one after another.
use Rattle.std.specs.Prelude.{◌≡◌, ℕ, pos, List, [], ◌∷◌, map, slice_index, refl}
use Rattle.std.specs.List.{range_with_len}
use Rattle.ndarray_layout.specs.IndexedView.{indexed_of}
use Rattle.ndarray_layout.specs.View.{View}
use Rattle.nd_access.specs.Items.{ArrayValue}
use Rattle.nd_lent.specs.Blocks.{arrays_of}

-- their views, one for each coordinate, from the first on, without the axis
abbrev pub views_along : ℕ → View → List View
views_along axis view = map (λ index. indexed_of axis index view) (range_with_len 0 (slice_index view.shape axis))

-- the arrays: the same items
abbrev pub arrays_along : {T : Type 0} → ℕ → ArrayValue T → List (ArrayValue T)
arrays_along axis array = arrays_of array.items (views_along axis array.view)

-- examples
abbrev two_rows : ArrayValue ℕ
two_rows = record { items = 5 ∷ 6 ∷ 7 ∷ 8 ∷ []; view = record { start = 0; shape = 2 ∷ 2 ∷ []; strides = pos 2 ∷ pos 1 ∷ [] } }

both_rows : map (λ array. array.view) (arrays_along 0 two_rows)
    ≡ record { start = 0; shape = 2 ∷ []; strides = pos 1 ∷ [] } ∷ record { start = 2; shape = 2 ∷ []; strides = pos 1 ∷ [] } ∷ []
both_rows = refl

both_columns : map (λ array. array.view) (arrays_along 1 two_rows)
    ≡ record { start = 0; shape = 2 ∷ []; strides = pos 2 ∷ [] } ∷ record { start = 1; shape = 2 ∷ []; strides = pos 2 ∷ [] } ∷ []
both_columns = refl

over_the_same_items : map (λ array. array.items) (arrays_along 1 two_rows) ≡ two_rows.items ∷ two_rows.items ∷ []
over_the_same_items = refl

abbrev no_rows : ArrayValue ℕ
no_rows = record { items = 5 ∷ []; view = record { start = 0; shape = 0 ∷ 3 ∷ []; strides = pos 3 ∷ pos 1 ∷ [] } }

none_of_no_coordinate : arrays_along 0 no_rows ≡ []
none_of_no_coordinate = refl
