-- Laws of strides read as signed numbers.
use Rattle.std.proofs.Common.{◌≡◌, ℕ, suc, ◌<◌, ◌≤◌, ℤ, pos, negsuc, ◌≤ℤ◌, w64, List, [], ◌∷◌, length, get_or, map, refl, ap, ◌∙◌, arith}
use Rattle.std.proofs.lemmas.Int.{ints, to_z_pos}
use Rattle.nd_base.proofs.Laws.Definitions.{all_signed, magnitude, limit}

-- a number from 0 on is its own distance from 0
pub magnitude_from : (z : ℤ) → pos 0 ≤ℤ z → pos (magnitude z) ≡ z
magnitude_from (pos n) from = refl
magnitude_from (negsuc n) from = absurd (omega (arith, ints))

-- numbers up to the limit are read as they are
pub all_signed_small : (xs : List ℕ) → ((k : ℕ) → k < length xs → get_or xs k 0 ≤ limit) → all_signed xs ≡ map pos xs
all_signed_small [] small = refl
all_signed_small (x ∷ xs) small =
    let first : x ≤ limit = small 0 (omega arith) in
    ap (λ z. z ∷ all_signed xs) (to_z_pos w64 x (omega arith))
    ∙ ap (λ zs. pos x ∷ zs) (all_signed_small xs (λ k below. small (suc k) (omega arith)))
