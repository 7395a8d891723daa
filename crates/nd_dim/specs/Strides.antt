-- The strides that a shape has by itself, and strides that place the same indices alike.
use Rattle.std.specs.Prelude.{◌≡◌, ℕ, zero, suc, ◌+◌, ◌<◌, if◌then◌else◌, List, [], ◌∷◌, length, map, take, drop, replicate}
use Rattle.std.specs.Prelude.{nat_eq, slice_index, refl}
use Rattle.std.proofs.Common.{eq-eqb}
use Rattle.std.proofs.Math.Dec.{lit<, lt→ltb}
use Rattle.std.proofs.lemmas.Bool.{both_ways}
use Rattle.nd_base.specs.Indices.{below}
use Rattle.nd_base.specs.Size.{size, is_empty}

-- the product of the lengths of the axes after one
abbrev pub size_after : List ℕ → ℕ → ℕ
size_after lens axis = size (drop (axis + 1) lens)

-- the product of the lengths of the axes before one
abbrev pub size_until : List ℕ → ℕ → ℕ
size_until lens axis = size (take axis lens)

-- the last axis moves by 1, and each other by the product of the later lengths; all 0 where there is no index
abbrev pub default_strides : List ℕ → List ℕ
default_strides lens = (if is_empty lens then replicate (length lens) 0 else map (size_after lens) (below (length lens)))

-- the first axis moves by 1, and each other by the product of the earlier lengths; all 0 where there is no index
abbrev pub fortran_strides : List ℕ → List ℕ
fortran_strides lens = (if is_empty lens then replicate (length lens) 0 else map (size_until lens) (below (length lens)))

-- one stride for each axis on both sides, equal wherever an axis has more than one coordinate
pub record AreEquivalent (lens strides others : List ℕ) : Type 0 where
  pub strides_count : length strides ≡ length lens
  pub others_count : length others ≡ length lens
  pub agree : (axis : ℕ) → axis < length lens → 1 < slice_index lens axis
      → slice_index strides axis ≡ slice_index others axis

-- examples
default_of_three : default_strides (3 ∷ 4 ∷ 5 ∷ []) ≡ 20 ∷ 5 ∷ 1 ∷ []
default_of_three = refl

fortran_of_three : fortran_strides (3 ∷ 4 ∷ 5 ∷ []) ≡ 1 ∷ 3 ∷ 12 ∷ []
fortran_of_three = refl

default_of_an_empty_shape : default_strides (2 ∷ 0 ∷ 3 ∷ []) ≡ 0 ∷ 0 ∷ 0 ∷ []
default_of_an_empty_shape = refl

fortran_of_an_empty_shape : fortran_strides (2 ∷ 0 ∷ 3 ∷ []) ≡ 0 ∷ 0 ∷ 0 ∷ []
fortran_of_an_empty_shape = refl

default_of_no_axes : default_strides [] ≡ []
default_of_no_axes = refl

agree_where_long : (axis : ℕ) → axis < 2 → 1 < slice_index (1 ∷ 3 ∷ []) axis
    → slice_index (7 ∷ 1 ∷ []) axis ≡ slice_index (9 ∷ 1 ∷ []) axis
agree_where_long zero within long = absurd (lt→ltb 1 1 long)
agree_where_long (suc zero) within long = refl
agree_where_long (suc (suc axis)) within long = refl

differ_at_one_coordinate : AreEquivalent (1 ∷ 3 ∷ []) (7 ∷ 1 ∷ []) (9 ∷ 1 ∷ [])
differ_at_one_coordinate = record { strides_count = refl; others_count = refl; agree = agree_where_long }

differ_at_three_coordinates : AreEquivalent (1 ∷ 3 ∷ []) (7 ∷ 1 ∷ []) (7 ∷ 2 ∷ []) → ⊥
differ_at_three_coordinates same = both_ways (nat_eq 1 2) refl (eq-eqb 1 2 (same.agree 1 (lit< tt) (lit< tt)))
