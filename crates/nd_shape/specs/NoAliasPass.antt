-- The no-alias rule by one pass along the axes, from the stride of least magnitude to that of the greatest.
use Rattle.std.specs.Prelude.{◌≡◌, ℕ, ◌+◌, ℤ, pos, negsuc, Bool, true, false, ◌&&◌, ◌||◌, nat_le, nat_lt, List, [], ◌∷◌}
use Rattle.std.specs.Prelude.{slice_index, slice_index_or, refl}
use Rattle.nd_base.specs.Span.{reach}
use Rattle.nd_dim.specs.StrideOrder.{magnitude_at}

-- how far the axis of a number reaches
abbrev pub reach_at : List ℕ → List ℤ → ℕ → ℕ
reach_at shape strides axis = reach (slice_index shape axis) (slice_index_or strides axis (pos 0))

-- an axis has at most one coordinate, or its stride is longer than what a pass has reached before it
abbrev pub strides_over : ℕ → List ℕ → List ℤ → ℕ → Bool
strides_over reached shape strides axis = nat_le (slice_index shape axis) 1 || nat_lt reached (magnitude_at strides axis)

-- a pass goes through: each axis of the order strides over what was reached at first and what the axes before it reach together
abbrev pub pass_from : ℕ → List ℕ → List ℤ → List ℕ → Bool
pass_from reached shape strides [] = true
pass_from reached shape strides (axis ∷ order) =
    strides_over reached shape strides axis && pass_from (reached + reach_at shape strides axis) shape strides order

-- the pass that begins with nothing reached goes through
abbrev pub holds_in_one_pass : List ℕ → List ℤ → List ℕ → Bool
holds_in_one_pass shape strides order = pass_from 0 shape strides order

-- examples
pass_by_rows : holds_in_one_pass (2 ∷ 3 ∷ 2 ∷ []) (pos 6 ∷ negsuc 1 ∷ pos 1 ∷ []) (2 ∷ 1 ∷ 0 ∷ []) ≡ true
pass_by_rows = refl

pass_too_tight : holds_in_one_pass (2 ∷ 3 ∷ 2 ∷ []) (negsuc 4 ∷ pos 2 ∷ negsuc 0 ∷ []) (2 ∷ 1 ∷ 0 ∷ []) ≡ false
pass_too_tight = refl

pass_over_equals : holds_in_one_pass (2 ∷ 2 ∷ []) (pos 1 ∷ pos 1 ∷ []) (0 ∷ 1 ∷ []) ≡ false
pass_over_equals = refl

pass_past_one_coordinate : holds_in_one_pass (2 ∷ 1 ∷ []) (pos 1 ∷ pos 1 ∷ []) (0 ∷ 1 ∷ []) ≡ true
pass_past_one_coordinate = refl
