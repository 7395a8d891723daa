-- When an axis can be merged into another, so that both are iterated over as one.
use Rattle.std.specs.Prelude.{◌≡◌, ℕ, ◌*◌, ◌<◌, ◌/◌, ◌%◌, ◌==◌, ◌&&◌, ◌||◌, Bool, true, false, nat_lt, nat_le, ℤ, pos, negsuc, ◌+ℤ◌, ◌*ℤ◌}
use Rattle.std.specs.Prelude.{if◌then◌else◌, List, [], ◌∷◌, slice_index, slice_set, refl}
use Rattle.std.specs.Ordering.{int_eq}
use Rattle.std.proofs.Math.Dec.{lit<}
use Rattle.std.proofs.lemmas.Bool.{both_ways}
use Rattle.std.proofs.lemmas.Bool.Decides.{Decides-int_eq}

-- a lone axis with this stride has every coordinate of two axes, of which the one to take moves slowest: its coordinate j is
-- coordinate j div into_len of the axis to take, and coordinate j mod into_len of the other
abbrev pub IsMergedStride : ℕ → ℤ → ℕ → ℤ → ℤ → Type 0
IsMergedStride take_len take_stride into_len into_stride stride =
    (j : ℕ) → j < take_len * into_len
    → pos j *ℤ stride ≡ (pos (j / into_len) *ℤ take_stride) +ℤ (pos (j % into_len) *ℤ into_stride)

-- some stride has every coordinate of both axes
abbrev pub MergeFits : ℕ → ℤ → ℕ → ℤ → Type 0
MergeFits take_len take_stride into_len into_stride =
    (stride : ℤ) × IsMergedStride take_len take_stride into_len into_stride stride

-- the test for it: one of the axes has at most one coordinate, or the stride of the axis to take is as long as the other axis
abbrev pub merge_fits : ℕ → ℤ → ℕ → ℤ → Bool
merge_fits take_len take_stride into_len into_stride =
    nat_le take_len 1 || nat_le into_len 1 || int_eq take_stride (pos into_len *ℤ into_stride)

-- the stride of the merged axis: that of the axis merged into, or of the other where only that one has more than one coordinate
abbrev pub merged_stride : {A : Type 0} → ℕ → A → ℕ → A → A
merged_stride take_len take_stride into_len into_stride =
    (if nat_lt 1 take_len && nat_le into_len 1 then take_stride else into_stride)

-- the strides where an axis is merged into another
abbrev pub merged_strides : ℕ → ℕ → List ℕ → List ℕ → List ℕ
merged_strides take into shape strides =
    slice_set
    strides
    into
    (merged_stride (slice_index shape take) (slice_index strides take) (slice_index shape into) (slice_index strides into))

-- the lengths: all coordinates lie on the axis merged into, and the other keeps one, or none where there are none
abbrev pub merged_shape : ℕ → ℕ → List ℕ → List ℕ
merged_shape take into shape =
    slice_set
    (slice_set shape into (slice_index shape into * slice_index shape take))
    take
    (if slice_index shape into * slice_index shape take == 0 then 0 else 1)

-- examples
three_rows_into_two_columns : merged_shape 0 1 (3 ∷ 2 ∷ []) ≡ 1 ∷ 6 ∷ []
three_rows_into_two_columns = refl

nothing_into_nothing : merged_shape 0 1 (1 ∷ 0 ∷ []) ≡ 0 ∷ 0 ∷ []
nothing_into_nothing = refl

stride_of_two_columns : merged_strides 0 1 (3 ∷ 2 ∷ []) (2 ∷ 1 ∷ []) ≡ 2 ∷ 1 ∷ []
stride_of_two_columns = refl

stride_into_one_column : merged_strides 0 1 (3 ∷ 1 ∷ []) (2 ∷ 7 ∷ []) ≡ 2 ∷ 2 ∷ []
stride_into_one_column = refl

rows_fit : merge_fits 3 (pos 2) 2 (pos 1) ≡ true
rows_fit = refl

columns_do_not_fit : merge_fits 2 (pos 1) 3 (pos 2) ≡ false
columns_do_not_fit = refl

backward_rows_fit : merge_fits 3 (negsuc 3) 2 (negsuc 1) ≡ true
backward_rows_fit = refl

one_coordinate_fits : merge_fits 1 (pos 7) 3 (pos 2) ≡ true
one_coordinate_fits = refl

-- coordinate 5 of three rows of two columns is the last column of the last row
last_coordinate : IsMergedStride 3 (pos 2) 2 (pos 1) (pos 1) → pos 5 ≡ (pos 2 *ℤ pos 2) +ℤ (pos 1 *ℤ pos 1)
last_coordinate merged = merged 5 (lit< tt)

-- columns that move slowest can't be merged into the rows: coordinate 3 would have to lie both 6 and 1 away from coordinate 0
columns_into_rows : IsMergedStride 2 (pos 1) 3 (pos 2) (pos 2) → ⊥
columns_into_rows merged = both_ways (int_eq (pos 6) (pos 1)) refl ((Decides-int_eq (pos 6) (pos 1)).1 (merged 3 (lit< tt)))
