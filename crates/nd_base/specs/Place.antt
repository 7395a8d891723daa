-- Where the indices of a layout lie in the data.
use Rattle.std.specs.Prelude.{◌≡◌, ℕ, ℤ, pos, negsuc, ◌+ℤ◌, List, [], ◌∷◌, map, refl}
use Rattle.nd_base.specs.declared.order.Order.{Order}
use Rattle.nd_base.specs.declared.order.Order.TheVariants.{RowMajor, ColumnMajor}
use Rattle.nd_base.specs.Indices.{indices_in}
use Rattle.nd_base.specs.Offset.{offset_of}

-- the place of an index, where the first index lies at start
abbrev pub place : ℕ → List ℤ → List ℕ → ℤ
place start strides index = pos start +ℤ offset_of strides index

-- the places of all indices of a shape, in an order
abbrev pub places : Order → ℕ → List ℕ → List ℤ → List ℤ
places order start shape strides = map (place start strides) (indices_in order shape)

-- examples
place_of_an_index : place 3 (negsuc 1 ∷ []) (1 ∷ []) ≡ pos 1
place_of_an_index = refl

places_by_rows : places RowMajor 0 (3 ∷ 2 ∷ []) (pos 2 ∷ pos 3 ∷ []) ≡ pos 0 ∷ pos 3 ∷ pos 2 ∷ pos 5 ∷ pos 4 ∷ pos 7 ∷ []
places_by_rows = refl

places_by_columns : places ColumnMajor 0 (2 ∷ 3 ∷ []) (pos 1 ∷ pos 2 ∷ []) ≡ pos 0 ∷ pos 1 ∷ pos 2 ∷ pos 3 ∷ pos 4 ∷ pos 5 ∷ []
places_by_columns = refl
