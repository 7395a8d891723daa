-- The axes by how far their strides step, whatever the sign.
use Rattle.std.specs.Prelude.{◌≡◌, ℕ, ◌+◌, ◌-◌, ◌<◌, ◌≤◌, ◌==◌, Bool, true, false, ◌&&◌, ◌||◌, nat_lt, ℤ, pos, negsuc, List, [], ◌∷◌}
use Rattle.std.specs.Prelude.{length}
use Rattle.std.specs.Prelude.{nat_eq, slice_index, slice_index_or, refl}
use Rattle.std.proofs.Common.{eq-eqb}
use Rattle.std.specs.List.Sorted.{IsPermutation}
use Rattle.std.proofs.Math.Dec.{lit<, lt→ltb}
use Rattle.std.proofs.Math.Arith.{le→nltb}
use Rattle.std.proofs.lemmas.Bool.{both_ways}
use Rattle.std.proofs.lemmas.List.Sorted.{length_permutation}
use Rattle.nd_base.specs.Indices.{below}
use Rattle.nd_base.specs.Signed.{magnitude}

-- the magnitude of the stride of an axis
abbrev pub magnitude_at : List ℤ → ℕ → ℕ
magnitude_at strides axis = magnitude (slice_index_or strides axis (pos 0))

-- an axis comes before another by the magnitude of its stride, and between equals by its number
abbrev pub comes_before : List ℤ → ℕ → ℕ → Bool
comes_before strides axis other = nat_lt (magnitude_at strides axis) (magnitude_at strides other)
    || (magnitude_at strides axis == magnitude_at strides other && nat_lt axis other)

-- every axis once, each before the next
pub record IsStrideOrder (strides : List ℤ) (order : List ℕ) : Type 0 where
  pub each_once : IsPermutation (below (length strides)) order
  pub in_order : (position : ℕ) → position + 1 < length order
      → comes_before strides (slice_index order position) (slice_index order (position + 1)) ≡ true

-- an axis longer than 1
abbrev pub IsLong : List ℕ → ℕ → Type 0
IsLong lens axis = (axis < length lens) × (1 < slice_index lens axis)

-- of the axes longer than 1 one whose magnitude leads those of all others; where several do, the one that is taken of
-- equals; where no axis has more than one coordinate, the axis `otherwise`
pub record IsLeadingAxis
    (leads taken_of_equals : ℕ → ℕ → Type 0) (otherwise : ℕ) (lens : List ℕ) (strides : List ℤ) (axis : ℕ) : Type 0 where
  pub exists : axis < length lens
  pub long : (other : ℕ) → IsLong lens other → IsLong lens axis
  pub leading : (other : ℕ) → IsLong lens other → leads (magnitude_at strides axis) (magnitude_at strides other)
  pub of_equals : (other : ℕ) → IsLong lens other → magnitude_at strides axis ≡ magnitude_at strides other
      → taken_of_equals axis other
  pub without_long : ((other : ℕ) → IsLong lens other → ⊥) → axis ≡ otherwise

-- of the axes longer than 1 the last among those of the least stride; without such an axis the last one
abbrev pub IsLeastStrideAxis : List ℕ → List ℤ → ℕ → Type 0
IsLeastStrideAxis lens = IsLeadingAxis (λ m n. m ≤ n) (λ axis other. other ≤ axis) (length lens - 1) lens

-- of the axes longer than 1 the last among those of the greatest stride; without such an axis the first one
abbrev pub IsGreatestStrideAxis : List ℕ → List ℤ → ℕ → Type 0
IsGreatestStrideAxis lens = IsLeadingAxis (λ m n. n ≤ m) (λ axis other. other ≤ axis) 0 lens

-- examples
before_by_magnitude : comes_before (negsuc 4 ∷ pos 3 ∷ []) 1 0 ≡ true
before_by_magnitude = refl

before_by_number : comes_before (negsuc 2 ∷ pos 3 ∷ []) 0 1 ≡ true
before_by_number = refl

not_before_itself : comes_before (pos 3 ∷ []) 0 0 ≡ false
not_before_itself = refl

not_by_number : IsStrideOrder (pos 3 ∷ pos 1 ∷ []) (0 ∷ 1 ∷ []) → ⊥
not_by_number order = both_ways (comes_before (pos 3 ∷ pos 1 ∷ []) 0 1) refl (order.in_order 0 (lit< tt))

not_every_axis : IsStrideOrder (pos 3 ∷ pos 1 ∷ []) (1 ∷ []) → ⊥
not_every_axis order = both_ways (nat_eq 1 2) refl (eq-eqb 1 2 (length_permutation (0 ∷ 1 ∷ []) (1 ∷ []) order.each_once))

least_is_of_more_coordinates : IsLeastStrideAxis (1 ∷ 3 ∷ []) (pos 0 ∷ pos 2 ∷ []) 0 → ⊥
least_is_of_more_coordinates least = lt→ltb 1 1 (least.long 1 (lit< tt, lit< tt)).1

least_is_last_of_equals : IsLeastStrideAxis (3 ∷ 3 ∷ []) (negsuc 1 ∷ pos 2 ∷ []) 0 → ⊥
least_is_last_of_equals least = le→nltb 0 1 (least.of_equals 1 (lit< tt, lit< tt) refl)

greatest_is_not_less : IsGreatestStrideAxis (3 ∷ 3 ∷ []) (pos 4 ∷ pos 2 ∷ []) 1 → ⊥
greatest_is_not_less greatest = le→nltb 2 4 (greatest.leading 0 (lit< tt, lit< tt))
