-- The indices of a shape, as lists.
use Rattle.std.specs.Prelude.{◌≡◌, ℕ, Bool, true, false, ◌&&◌, nat_lt, List, [], ◌∷◌, map, reverse, refl}
use Rattle.std.specs.List.{flat_map, range_with_len}
use Rattle.nd_base.specs.declared.order.Order.{Order}
use Rattle.nd_base.specs.declared.order.Order.TheVariants.{RowMajor, ColumnMajor}

-- 0, 1 and so on, as many as len
abbrev pub below : ℕ → List ℕ
below len = range_with_len 0 len

-- the indices in row-major order: the first axis moves slowest
abbrev pub indices : List ℕ → List (List ℕ)
indices [] = [] ∷ []
indices (len ∷ lens) = flat_map (λ i. map (λ index. i ∷ index) (indices lens)) (below len)

-- the indices in column-major order: the axes are read from the back
abbrev pub indices_column_major : List ℕ → List (List ℕ)
indices_column_major shape = map reverse (indices (reverse shape))

-- the indices in an order
abbrev pub indices_in : Order → List ℕ → List (List ℕ)
indices_in RowMajor shape = indices shape
indices_in ColumnMajor shape = indices_column_major shape

-- as many coordinates as the shape has axes, each below its length
abbrev pub is_index : List ℕ → List ℕ → Bool
is_index [] [] = true
is_index [] (i ∷ index) = false
is_index (len ∷ lens) [] = false
is_index (len ∷ lens) (i ∷ index) = nat_lt i len && is_index lens index

-- examples
of_two_by_two : indices (2 ∷ 2 ∷ []) ≡ (0 ∷ 0 ∷ []) ∷ (0 ∷ 1 ∷ []) ∷ (1 ∷ 0 ∷ []) ∷ (1 ∷ 1 ∷ []) ∷ []
of_two_by_two = refl

columns_of_two_by_two : indices_column_major (2 ∷ 2 ∷ []) ≡ (0 ∷ 0 ∷ []) ∷ (1 ∷ 0 ∷ []) ∷ (0 ∷ 1 ∷ []) ∷ (1 ∷ 1 ∷ []) ∷ []
columns_of_two_by_two = refl

of_no_axes : indices [] ≡ [] ∷ []
of_no_axes = refl

of_a_zero_axis : indices (2 ∷ 0 ∷ 3 ∷ []) ≡ []
of_a_zero_axis = refl

out_of_shape : is_index (2 ∷ 3 ∷ []) (1 ∷ 3 ∷ []) ≡ false
out_of_shape = refl
