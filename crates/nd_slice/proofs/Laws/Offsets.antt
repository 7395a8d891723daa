-- How far the first pick of a slice lies, and each one from the one before it.
use Rattle.std.proofs.Common.{◌≡◌, ℕ, ◌<◌, ◌≤◌, List, [], ◌∷◌, length, get_or, arith, refl, ap, ℤ, pos, ◌*ℤ◌, if◌then◌else◌}
use Rattle.std.proofs.lemmas.Bool.{le-leb, lt-leb}
use Rattle.nd_slice.proofs.Definitions.{first_offset, picked_stride}

-- the offset of the first one
pub offset_of_some : (picks : List ℕ) (stride : ℤ) → 0 < length picks → first_offset picks stride ≡ pos (get_or picks 0 0) *ℤ stride
offset_of_some [] stride h = absurd (omega arith)
offset_of_some (pick ∷ picks) stride h = refl

pub offset_of_none : (picks : List ℕ) (stride : ℤ) → length picks ≡ 0 → first_offset picks stride ≡ pos 0
offset_of_none [] stride h = refl
offset_of_none (pick ∷ picks) stride h = absurd (omega arith)

-- the new stride
pub picked_many : (count : ℕ) (stride step : ℤ) → 1 < count → picked_stride count stride step ≡ stride *ℤ step
picked_many count stride step h = ap (λ b. if b then pos 0 else (stride *ℤ step)) (lt-leb count 1 h)

pub picked_few : (count : ℕ) (stride step : ℤ) → count ≤ 1 → picked_stride count stride step ≡ pos 0
picked_few count stride step h = ap (λ b. if b then pos 0 else (stride *ℤ step)) (le-leb count 1 h)
