-- Which axis changes places with the last one, so that the one of the least stride comes last.
use Rattle.std.specs.Prelude.{◌≡◌, ◌≢◌, ℕ, ◌-◌, ◌≤◌, ◌&&◌, ◌||◌, Bool, true, false, nat_le, nat_lt, ℤ, pos, negsuc}
use Rattle.std.specs.Prelude.{if◌then◌else◌, List, [], ◌∷◌, length, slice_index, refl}
use Rattle.std.proofs.Math.Arith.{le→nltb}
use Rattle.std.proofs.Math.Dec.{lit<, lt→ltb}
use Rattle.nd_dim.specs.StrideOrder.{magnitude_at, IsLeadingAxis}

-- of the axes longer than 1 the first among those of the least stride; without such an axis the last one
abbrev pub IsFirstLeastAxis : List ℕ → List ℤ → ℕ → Type 0
IsFirstLeastAxis lens = IsLeadingAxis (λ m n. m ≤ n) (λ axis other. axis ≤ other) (length lens - 1) lens

-- two axes are turned where the last has at most one coordinate, or the first has more and the lesser stride
abbrev pub are_swapped : List ℕ → List ℤ → Bool
are_swapped lens strides =
    nat_le (slice_index lens 1) 1 || (nat_lt 1 (slice_index lens 0) && nat_lt (magnitude_at strides 0) (magnitude_at strides 1))

-- the axis that changes places with the last one: of two axes by whether they are turned, of others the first of the least stride
pub record IsAxisToMove (lens : List ℕ) (strides : List ℤ) (axis : ℕ) : Type 0 where
  pub of_two : length lens ≡ 2 → axis ≡ (if are_swapped lens strides then 0 else 1)
  pub of_others : length lens ≢ 2 → IsFirstLeastAxis lens strides axis

-- examples
both_of_one_coordinate : are_swapped (1 ∷ 1 ∷ []) (pos 7 ∷ pos 9 ∷ []) ≡ true
both_of_one_coordinate = refl

equal_strides : are_swapped (2 ∷ 2 ∷ []) (negsuc 2 ∷ pos 3 ∷ []) ≡ false
equal_strides = refl

lesser_in_front : are_swapped (2 ∷ 2 ∷ []) (negsuc 0 ∷ pos 3 ∷ []) ≡ true
lesser_in_front = refl

first_of_equals : IsFirstLeastAxis (3 ∷ 3 ∷ 3 ∷ []) (negsuc 1 ∷ pos 2 ∷ pos 4 ∷ []) 1 → ⊥
first_of_equals least = le→nltb 0 1 (least.of_equals 0 (lit< tt, lit< tt) refl)

of_more_coordinates : IsFirstLeastAxis (1 ∷ 3 ∷ 3 ∷ []) (pos 0 ∷ pos 2 ∷ pos 4 ∷ []) 0 → ⊥
of_more_coordinates least = lt→ltb 1 1 (least.long 1 (lit< tt, lit< tt)).1
