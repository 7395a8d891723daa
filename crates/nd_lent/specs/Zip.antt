-- The items of an array, each with what stands beside it.
use Rattle.std.specs.Prelude.{◌≡◌, ℕ, pos, Option, Some, None, List, [], ◌∷◌, map, refl}
use Rattle.std.specs.Option.{option_map, option_zip}
use Rattle.ndarray_layout.specs.declared.Order.TheVariants.{RowMajor}
use Rattle.ndarray_layout.specs.Indices.{indices_in}
use Rattle.nd_access.specs.Items.{ArrayValue, item_at}

-- that of an index, with what `at` has at the index
abbrev pub item_beside : {T V : Type 0} → ArrayValue T → (List ℕ → Option V) → List ℕ → Option (T × V)
item_beside array at index = option_zip (item_at array index) (at index)

-- those of all indices, in row-major order
abbrev pub row_major_beside : {T V : Type 0} → ArrayValue T → (List ℕ → Option V) → List (Option (T × V))
row_major_beside array at = map (item_beside array at) (indices_in RowMajor array.view.shape)

-- what h makes of the item of an index and of what `at` has there
abbrev pub zipped_beside : {T V : Type 0} → (T × V → T) → ArrayValue T → (List ℕ → Option V) → List ℕ → Option T
zipped_beside h array at index = option_map h (item_beside array at index)

-- examples
abbrev row : List ℕ → ArrayValue ℕ
row items = record { items = items; view = record { start = 0; shape = 2 ∷ []; strides = pos 1 ∷ [] } }

two_in_order : row_major_beside (row (7 ∷ 8 ∷ [])) (item_at (row (5 ∷ 6 ∷ []))) ≡ Some (7, 5) ∷ Some (8, 6) ∷ []
two_in_order = refl

both_or_none : zipped_beside (λ pair. pair.1) (row (7 ∷ 8 ∷ [])) (item_at (row (5 ∷ []))) (1 ∷ []) ≡ None
both_or_none = refl
