-- Laws of how far an index can lie from the first one.
use Rattle.std.proofs.Common.{◌≡◌, ℕ, zero, suc, ◌-◌, ◌<◌, ◌≤◌, ℤ, true, List, [], ◌∷◌, replicate, refl, arith}
use Rattle.std.specs.Prelude.{nat_lt}
use Rattle.std.proofs.Math.Nat.{mul-le-mul_right}
use Rattle.std.proofs.lemmas.Bool.{and_parts, ltb-true}
use Rattle.nd_base.proofs.Laws.Definitions.{is_index, farthest_offset, magnitude, span}

-- zeros lie where the first index does
pub farthest_offset-zeros : (strides : List ℤ) (n : ℕ) → farthest_offset strides (replicate n 0) ≡ 0
farthest_offset-zeros strides zero = refl
farthest_offset-zeros [] (suc n) = refl
farthest_offset-zeros (stride ∷ strides) (suc n) = omega (arith, farthest_offset-zeros strides n)

-- an index lies no farther than the span, whatever the signs of the strides
pub farthest_offset_le : (shape : List ℕ) (strides : List ℤ) (index : List ℕ) → is_index shape index ≡ true
    → farthest_offset strides index ≤ span shape strides
farthest_offset_le [] strides [] h = omega arith
farthest_offset_le [] strides (i ∷ index) h = absurd (cc)
farthest_offset_le (len ∷ shape) strides [] h = absurd (cc)
farthest_offset_le (len ∷ shape) [] (i ∷ index) h = omega arith
farthest_offset_le (len ∷ shape) (stride ∷ strides) (i ∷ index) h =
    let parts = and_parts (nat_lt i len) (is_index shape index) h in
    let below : i < len = ltb-true i len parts.0 in
    let steps : i ≤ len - 1 = omega arith in
    let most = mul-le-mul_right (magnitude stride) steps in
    omega (arith, farthest_offset_le shape strides index parts.1)
