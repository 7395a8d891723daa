-- What the diagonal of a view is.
use Rattle.std.specs.Prelude.{◌≡◌, ℕ, ℤ, pos, negsuc, ◌+ℤ◌, nat_lt, min, fold, if◌then◌else◌, List, [], ◌∷◌, replicate, slice_index, refl}
use Rattle.ndarray_layout.specs.View.{View}

-- how many indices have the same coordinate on each axis: the least length, and one where there are no axes
abbrev pub diagonal_len : List ℕ → ℕ
diagonal_len [] = 1
diagonal_len (len ∷ lens) = fold min len lens

-- from one of them to the next each coordinate is one more; 0 where there is no next one
abbrev pub diagonal_stride : ℕ → List ℤ → ℤ
diagonal_stride len strides = if nat_lt len 2 then pos 0 else fold ◌+ℤ◌ (pos 0) strides

-- the diagonal of a view: its start stays
abbrev pub diagonal_of : View → View
diagonal_of view = record {
  start = view.start;
  shape = diagonal_len view.shape ∷ [];
  strides = diagonal_stride (diagonal_len view.shape) view.strides ∷ [];
}

-- which index of a view of so many axes an index of the diagonal stands for: its coordinate on each axis
abbrev pub diagonal_source : ℕ → List ℕ → List ℕ
diagonal_source ndim index = replicate ndim (slice_index index 0)

-- examples
two_rows_of_three : diagonal_of (record { start = 0; shape = 2 ∷ 3 ∷ []; strides = pos 3 ∷ pos 1 ∷ [] })
    ≡ record { start = 0; shape = 2 ∷ []; strides = pos 4 ∷ [] }
two_rows_of_three = refl

rows_backwards : diagonal_of (record { start = 6; shape = 3 ∷ 3 ∷ []; strides = negsuc 2 ∷ pos 1 ∷ [] })
    ≡ record { start = 6; shape = 3 ∷ []; strides = negsuc 1 ∷ [] }
rows_backwards = refl

no_axes : diagonal_of (record { start = 5; shape = []; strides = [] }) ≡ record { start = 5; shape = 1 ∷ []; strides = pos 0 ∷ [] }
no_axes = refl

one_row : diagonal_of (record { start = 0; shape = 1 ∷ 3 ∷ []; strides = pos 9223372036854775807 ∷ pos 1 ∷ [] })
    ≡ record { start = 0; shape = 1 ∷ []; strides = pos 0 ∷ [] }
one_row = refl

no_row : diagonal_of (record { start = 0; shape = 3 ∷ 0 ∷ []; strides = pos 1 ∷ pos 1 ∷ [] })
    ≡ record { start = 0; shape = 0 ∷ []; strides = pos 0 ∷ [] }
no_row = refl

second_of_three_axes : diagonal_source 3 (1 ∷ []) ≡ 1 ∷ 1 ∷ 1 ∷ []
second_of_three_axes = refl
