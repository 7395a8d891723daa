-- The flat index of an index: how many indices of the shape come before it in an order.
use Rattle.std.specs.Prelude.{◌≡◌, ℕ, ◌+◌, ◌*◌, ◌/◌, ◌%◌, List, [], ◌∷◌, refl}
use Rattle.nd_base.specs.declared.order.Order.{Order}
use Rattle.nd_base.specs.declared.order.Order.TheVariants.{RowMajor, ColumnMajor}
use Rattle.nd_base.specs.AsRead.{as_read}
use Rattle.nd_base.specs.Size.{size}

-- the flat index in row-major order: each coordinate counts as many indices as the axes after it have together
abbrev pub flat_index : List ℕ → List ℕ → ℕ
flat_index [] index = 0
flat_index (len ∷ lens) [] = 0
flat_index (len ∷ lens) (i ∷ index) = i * size lens + flat_index lens index

-- the index at a flat index in row-major order
abbrev pub index_of_flat : List ℕ → ℕ → List ℕ
index_of_flat [] r = []
index_of_flat (len ∷ lens) r = r / size lens ∷ index_of_flat lens (r % size lens)

-- the flat index in an order: that of the index by the axes as they are read
abbrev pub flat_index_in : Order → List ℕ → List ℕ → ℕ
flat_index_in order shape index = flat_index (as_read order shape) (as_read order index)

-- the index at a flat index in an order
abbrev pub index_of_flat_in : Order → List ℕ → ℕ → List ℕ
index_of_flat_in order shape r = as_read order (index_of_flat (as_read order shape) r)

-- examples
flat_index_by_rows : flat_index_in RowMajor (2 ∷ 3 ∷ []) (1 ∷ 0 ∷ []) ≡ 3
flat_index_by_rows = refl

flat_index_by_columns : flat_index_in ColumnMajor (2 ∷ 3 ∷ []) (1 ∷ 0 ∷ []) ≡ 1
flat_index_by_columns = refl

last_by_rows : flat_index_in RowMajor (2 ∷ 3 ∷ []) (1 ∷ 2 ∷ []) ≡ 5
last_by_rows = refl

last_by_columns : flat_index_in ColumnMajor (2 ∷ 3 ∷ []) (1 ∷ 2 ∷ []) ≡ 5
last_by_columns = refl

index_by_rows : index_of_flat_in RowMajor (2 ∷ 3 ∷ 4 ∷ []) 17 ≡ 1 ∷ 1 ∷ 1 ∷ []
index_by_rows = refl

index_by_columns : index_of_flat_in ColumnMajor (2 ∷ 3 ∷ 4 ∷ []) 17 ≡ 1 ∷ 2 ∷ 2 ∷ []
index_by_columns = refl

flat_index_of_no_axes : flat_index [] [] ≡ 0
flat_index_of_no_axes = refl
