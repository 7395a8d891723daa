-- The index after one, in an order.
use Rattle.std.specs.Prelude.{◌≡◌, ℕ, ◌+◌, Bool, false, nat_lt, if◌then◌else◌, List, [], ◌∷◌, length, replicate, refl}
use Rattle.ndarray_layout.specs.declared.Order.{Order}
use Rattle.ndarray_layout.specs.declared.Order.TheVariants.{RowMajor, ColumnMajor}
use Rattle.ndarray_layout.specs.FlatIndex.{index_of_flat_in, flat_index_in}
use Rattle.ndarray_layout.specs.Size.{size}

-- an index is not the last one
abbrev pub has_index_after : Order → List ℕ → List ℕ → Bool
has_index_after order shape index = nat_lt (flat_index_in order shape index + 1) (size shape)

-- the index after one; after the last one comes the first one
abbrev pub index_after : Order → List ℕ → List ℕ → List ℕ
index_after order shape index =
    if has_index_after order shape index then index_of_flat_in order shape (flat_index_in order shape index + 1)
    else replicate (length shape) 0

-- examples
next_row : index_after RowMajor (2 ∷ 3 ∷ []) (0 ∷ 2 ∷ []) ≡ 1 ∷ 0 ∷ []
next_row = refl

next_column : index_after ColumnMajor (2 ∷ 3 ∷ []) (1 ∷ 0 ∷ []) ≡ 0 ∷ 1 ∷ []
next_column = refl

first_after_last : index_after RowMajor (2 ∷ 3 ∷ []) (1 ∷ 2 ∷ []) ≡ 0 ∷ 0 ∷ []
first_after_last = refl

none_after_last : has_index_after RowMajor (2 ∷ 3 ∷ []) (1 ∷ 2 ∷ []) ≡ false
none_after_last = refl
