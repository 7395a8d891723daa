-- Which layouts fill their interval of memory without a gap, by the no-alias rule.
use Rattle.std.specs.Prelude.{◌≡◌, ℕ, ◌==◌, Bool, true, false, ◌||◌, nat_le, ℤ, pos, negsuc, if◌then◌else◌, List, [], ◌∷◌, length, map}
use Rattle.std.specs.Prelude.{slice_index, slice_index_or, refl}
use Rattle.std.specs.List.{list_all, filter}
use Rattle.std.specs.Ordering.{int_eq}
use Rattle.std.specs.Cmp.Lexicographic.{pointwise}
use Rattle.nd_base.specs.Indices.{below}
use Rattle.nd_base.specs.Size.{size}
use Rattle.nd_dim.specs.StrideOrder.{magnitude_at, comes_before}
use Rattle.nd_dim.specs.Strides.{default_strides}

-- the strides are the default ones
abbrev pub has_default_strides : List ℕ → List ℤ → Bool
has_default_strides lens strides = pointwise int_eq strides (map pos (default_strides lens))

-- the lengths of the axes that come before an axis by the magnitudes of their strides
abbrev pub lens_before : List ℕ → List ℤ → ℕ → List ℕ
lens_before lens strides axis =
    map (slice_index lens) (filter (λ other. comes_before strides other axis) (below (length lens)))

-- an axis has one coordinate, or its stride steps over just what the axes of lesser strides span together
abbrev pub is_packed_at : List ℕ → List ℤ → ℕ → Bool
is_packed_at lens strides axis =
    slice_index lens axis == 1 || magnitude_at strides axis == size (lens_before lens strides axis)

-- every axis is packed
abbrev pub is_packed : List ℕ → List ℤ → Bool
is_packed lens strides = list_all (is_packed_at lens strides) (below (length lens))

-- a lone axis holds at most one coordinate or goes back one by one
abbrev pub is_lone_reversed : List ℕ → List ℤ → Bool
is_lone_reversed lens strides =
    nat_le (slice_index lens 0) 1 || int_eq (slice_index_or strides 0 (pos 0)) (negsuc 0)

-- the strides are the default ones, or a lone axis goes back one by one, or every axis is packed among several
abbrev pub is_contiguous : List ℕ → List ℤ → Bool
is_contiguous lens strides =
    has_default_strides lens strides || (if length lens == 1 then is_lone_reversed lens strides else is_packed lens strides)

-- examples
before_the_last_column : lens_before (2 ∷ 3 ∷ 4 ∷ []) (pos 1 ∷ pos 2 ∷ pos 6 ∷ []) 2 ≡ 2 ∷ 3 ∷ []
before_the_last_column = refl

both_reversed : is_contiguous (2 ∷ 3 ∷ []) (negsuc 2 ∷ negsuc 0 ∷ []) ≡ true
both_reversed = refl

with_a_gap : is_contiguous (3 ∷ 2 ∷ []) (pos 2 ∷ pos 3 ∷ []) ≡ false
with_a_gap = refl

by_columns : is_contiguous (2 ∷ 3 ∷ []) (pos 1 ∷ pos 2 ∷ []) ≡ true
by_columns = refl

reversed : is_contiguous (5 ∷ []) (negsuc 0 ∷ []) ≡ true
reversed = refl

every_second : is_contiguous (5 ∷ []) (pos 2 ∷ []) ≡ false
every_second = refl

any_stride_of_one_coordinate : is_contiguous (1 ∷ 2 ∷ []) (negsuc 9223372036854775807 ∷ pos 1 ∷ []) ≡ true
any_stride_of_one_coordinate = refl

no_axes : is_contiguous [] [] ≡ true
no_axes = refl

no_coordinate : is_contiguous (0 ∷ []) (pos 9 ∷ []) ≡ true
no_coordinate = refl

by_rows : is_contiguous (2 ∷ 3 ∷ []) (pos 3 ∷ pos 1 ∷ []) ≡ true
by_rows = refl
