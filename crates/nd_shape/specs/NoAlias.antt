-- The no-alias rule, under which no two indices of a layout alias. It is stricter than that.
use Rattle.std.specs.Prelude.{◌≡◌, ℕ, ◌<◌, ℤ, pos, negsuc, Bool, true, false, ◌||◌, nat_le, nat_lt, if◌then◌else◌, List, [], ◌∷◌}
use Rattle.std.specs.Prelude.{length, remove, slice_index, refl}
use Rattle.std.proofs.Math.Dec.{lit<, lt→ltb}
use Rattle.std.specs.List.{list_all, range_with_len}
use Rattle.nd_base.specs.Signed.{magnitude}
use Rattle.nd_base.specs.Span.{reach, sum_over_axes}
use Rattle.nd_dim.specs.StrideOrder.{magnitude_at}

-- the summed spans of the axes whose strides are of magnitude at most m
abbrev pub span_up_to : ℕ → List ℕ → List ℤ → ℕ
span_up_to m shape strides =
    sum_over_axes (λ len stride. if nat_le (magnitude stride) m then reach len stride else 0) shape strides

-- how far all axes but one reach together, of those whose strides are no longer than its own
abbrev pub span_of_others : List ℕ → List ℤ → ℕ → ℕ
span_of_others shape strides axis =
    span_up_to (magnitude_at strides axis) (remove shape axis) (remove strides axis)

-- an axis has at most one coordinate, or its stride is longer than the others reach together, of those whose strides are no longer
abbrev pub strides_over_others : List ℕ → List ℤ → ℕ → Bool
strides_over_others shape strides axis =
    nat_le (slice_index shape axis) 1 || nat_lt (span_of_others shape strides axis) (magnitude_at strides axis)

-- every axis has at most one coordinate, or strides over the others
abbrev pub satisfies_no_alias_rule : List ℕ → List ℤ → Bool
satisfies_no_alias_rule shape strides = list_all (strides_over_others shape strides) (range_with_len 0 (length shape))

-- the rule as a fact: each axis longer than 1 strides over the others
abbrev pub SatisfiesNoAliasRule : List ℕ → List ℤ → Type 0
SatisfiesNoAliasRule shape strides =
    (axis : ℕ) → axis < length shape → 1 < slice_index shape axis
    → span_of_others shape strides axis < magnitude_at strides axis

-- examples
row_major_rule : satisfies_no_alias_rule (2 ∷ 3 ∷ 2 ∷ []) (pos 6 ∷ negsuc 1 ∷ pos 1 ∷ []) ≡ true
row_major_rule = refl

too_tight : satisfies_no_alias_rule (2 ∷ 3 ∷ 2 ∷ []) (negsuc 4 ∷ pos 2 ∷ negsuc 0 ∷ []) ≡ false
too_tight = refl

equal_strides : satisfies_no_alias_rule (2 ∷ 2 ∷ []) (pos 1 ∷ pos 1 ∷ []) ≡ false
equal_strides = refl

distinct_but_broken : satisfies_no_alias_rule (3 ∷ 2 ∷ []) (pos 2 ∷ pos 3 ∷ []) ≡ false
distinct_but_broken = refl

equal_strides_break_it : SatisfiesNoAliasRule (2 ∷ 2 ∷ []) (pos 1 ∷ pos 1 ∷ []) → ⊥
equal_strides_break_it rule = lt→ltb 1 1 (rule 0 (lit< tt) (lit< tt))
