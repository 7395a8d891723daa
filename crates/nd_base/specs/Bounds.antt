-- Every index of a layout lies within the data.
use Rattle.std.specs.Prelude.{◌≡◌, ℕ, ◌<◌, ℤ, pos, negsuc, true, List, [], ◌∷◌, refl}
use Rattle.std.proofs.Math.Dec.{lt→ltb}
use Rattle.nd_base.specs.Indices.{is_index}
use Rattle.nd_base.specs.Place.{place}

-- a place is one of len elements
abbrev pub IsInBounds : ℕ → ℤ → Type 0
IsInBounds len (pos n) = n < len
IsInBounds len (negsuc n) = ⊥

-- where the first index lies at start, each index of the shape lies at one of len elements
abbrev pub LiesInBounds : ℕ → ℕ → List ℕ → List ℤ → Type 0
LiesInBounds len start shape strides = (index : List ℕ) → is_index shape index ≡ true
    → IsInBounds len (place start strides index)

-- examples
place_below_0 : IsInBounds 4 (negsuc 0) → ⊥
place_below_0 in_bounds = in_bounds

one_too_many : LiesInBounds 2 0 (3 ∷ []) (pos 1 ∷ []) → ⊥
one_too_many in_bounds = lt→ltb 2 2 (in_bounds (2 ∷ []) refl)

from_the_back : LiesInBounds 3 0 (3 ∷ []) (negsuc 0 ∷ []) → ⊥
from_the_back in_bounds = in_bounds (1 ∷ []) refl
