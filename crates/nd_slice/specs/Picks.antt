-- What a slice picks of an axis.
use Rattle.std.specs.Prelude.{◌≡◌, ℕ, ◌-◌, ◌%◌, ◌==◌, ℤ, pos, negsuc, Some, None, List, [], ◌∷◌, map, reverse, refl}
use Rattle.std.specs.List.{enumerate_from, filter, range_with_len}
use Rattle.nd_base.specs.Signed.{magnitude}
use Rattle.nd_slice.specs.declared.fit.Fit.{Fit}
use Rattle.nd_slice.specs.declared.fit.Fit.TheVariants.{Strict, Clamp}
use Rattle.nd_slice.specs.declared.slice.Slice.{Slice}
use Rattle.nd_slice.specs.SliceBounds.{end_meaning, slice_with, start_meaning}

-- the numbers from start up to, not including, end
abbrev pub range : ℕ → ℕ → List ℕ
range start end = range_with_len start (end - start)

-- the items whose positions, counted from 0, are multiples of step
abbrev pub every : ℕ → List ℕ → List ℕ
every step items = map (λ item. item.1) (filter (λ item. item.0 % step == 0) (enumerate_from 0 items))

-- items in the direction of a step: the other way round where it is negative
abbrev pub directed : ℤ → List ℕ → List ℕ
directed (pos step) items = items
directed (negsuc step) items = reverse items

-- what a step picks of the numbers from start up to, not including, end, in order
abbrev pub between : ℤ → ℕ → ℕ → List ℕ
between step start end = every (magnitude step) (directed step (range start end))

-- the coordinates that a slice picks of an axis which it fits, in order
abbrev pub picks : Fit → ℕ → Slice → List ℕ
picks fit len slice = between slice.step (magnitude (start_meaning fit len slice)) (magnitude (end_meaning fit len slice))

-- examples
two_to_four : range 2 5 ≡ 2 ∷ 3 ∷ 4 ∷ []
two_to_four = refl

every_second : every 2 (5 ∷ 6 ∷ 7 ∷ 8 ∷ 9 ∷ []) ≡ 5 ∷ 7 ∷ 9 ∷ []
every_second = refl

turned_round : directed (negsuc 1) (5 ∷ 6 ∷ 7 ∷ []) ≡ 7 ∷ 6 ∷ 5 ∷ []
turned_round = refl

two_steps_back : between (negsuc 1) 1 4 ≡ 3 ∷ 1 ∷ []
two_steps_back = refl

from_the_back : picks Strict 4 (slice_with (pos 1) None (negsuc 1)) ≡ 3 ∷ 1 ∷ []
from_the_back = refl

from_the_front : picks Strict 10 (slice_with (pos 1) (Some (pos 8)) (pos 3)) ≡ 1 ∷ 4 ∷ 7 ∷ []
from_the_front = refl

end_before_start : picks Strict 4 (slice_with (pos 3) (Some (pos 1)) (pos 1)) ≡ []
end_before_start = refl

from_the_end : picks Strict 10 (slice_with (negsuc 8) (Some (negsuc 1)) (negsuc 2)) ≡ 7 ∷ 4 ∷ 1 ∷ []
from_the_end = refl

clamped_at_both_ends : picks Clamp 4 (slice_with (negsuc 8) (Some (pos 9)) (negsuc 1)) ≡ 3 ∷ 1 ∷ []
clamped_at_both_ends = refl

clamped_end_before_start : picks Clamp 4 (slice_with (pos 5) (Some (pos 2)) (pos 1)) ≡ []
clamped_end_before_start = refl

clamped_end : picks Clamp 4 (slice_with (pos 3) (Some (pos 9)) (pos 1)) ≡ 3 ∷ []
clamped_end = refl
