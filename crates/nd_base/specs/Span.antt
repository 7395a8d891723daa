-- How far a layout reaches, on both sides of the place of its first index. Axes of length 0 or 1 reach nowhere.
use Rattle.std.specs.Prelude.{◌≡◌, ℕ, ◌+◌, ◌-◌, ◌*◌, ℤ, pos, negsuc, List, [], ◌∷◌, refl}
use Rattle.nd_base.specs.Signed.{magnitude}

-- how far one axis reaches: one less than its length, times its stride's magnitude; `-` stops at 0
abbrev pub reach : ℕ → ℤ → ℕ
reach len stride = (len - 1) * magnitude stride

-- how far an axis reaches below its first coordinate
abbrev pub reach_down : ℕ → ℤ → ℕ
reach_down len (pos stride) = 0
reach_down len (negsuc stride) = reach len (negsuc stride)

-- how far an axis reaches above its first coordinate
abbrev pub reach_up : ℕ → ℤ → ℕ
reach_up len (pos stride) = reach len (pos stride)
reach_up len (negsuc stride) = 0

-- the sum over the axes of a function of each one's length and stride
abbrev pub sum_over_axes : (ℕ → ℤ → ℕ) → List ℕ → List ℤ → ℕ
sum_over_axes f [] strides = 0
sum_over_axes f (len ∷ shape) [] = 0
sum_over_axes f (len ∷ shape) (stride ∷ strides) = f len stride + sum_over_axes f shape strides

-- how far the axes reach together, both ways; also where a length is 0 and there is no index
abbrev pub span : List ℕ → List ℤ → ℕ
span shape strides = sum_over_axes reach shape strides

-- how far the axes reach together below the first index
abbrev pub low_span : List ℕ → List ℤ → ℕ
low_span shape strides = sum_over_axes reach_down shape strides

-- how far the axes reach together above the first index
abbrev pub high_span : List ℕ → List ℤ → ℕ
high_span shape strides = sum_over_axes reach_up shape strides

-- examples
span_of_two_axes : span (2 ∷ 3 ∷ []) (negsuc 2 ∷ pos 1 ∷ []) ≡ 5
span_of_two_axes = refl

low_span_of_two_axes : low_span (2 ∷ 3 ∷ []) (negsuc 2 ∷ pos 1 ∷ []) ≡ 3
low_span_of_two_axes = refl

span_of_a_zero_axis : span (0 ∷ 2 ∷ []) (pos 9 ∷ pos 1 ∷ []) ≡ 1
span_of_a_zero_axis = refl

span_at_the_least_stride : span (2 ∷ []) (negsuc 9223372036854775807 ∷ []) ≡ 9223372036854775808
span_at_the_least_stride = refl
