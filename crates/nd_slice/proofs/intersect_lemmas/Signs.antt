-- Numbers by magnitude and sign, and what Euclid's steps on two magnitudes say of the numbers themselves.
use Rattle.std.proofs.Common.{◌≡◌, ℕ, zero, suc, ◌*◌, ◌/◌, ◌<◌, ◌≤◌, Bool, true, false, not, arith, ap, sym, ◌∙◌, refl, subst, ℤ, pos}
use Rattle.std.proofs.Common.{negsuc, ◌+ℤ◌, ◌*ℤ◌, zero-mul, mul-zero, ◌≤ℤ◌, neg_ℤ}
use Rattle.std.proofs.Math.Bool.{beq}
use Rattle.std.proofs.Math.IntN.{zero-*ℤ, *ℤ-zero, negsuc-*ℤ-negsuc, negsuc-*ℤ-pos, pos-*ℤ-negsuc, pos-*ℤ-pos}
use Rattle.std.proofs.Math.Nat.{pos_of_dvd_of_pos}
use Rattle.std.proofs.lemmas.Nat.{le-div}
use Rattle.std.proofs.lemmas.Nat.Gcd.{IsGcd-from_zero, IsGcd-swap}
use Rattle.std.proofs.lemmas.Int.{ints}
use Rattle.std.specs.Int.{IsGcd}
use Rattle.nd_slice.proofs.Definitions.{magnitude, with_sign_of}
use Rattle.nd_slice.proofs.intersect_lemmas.Steps.{AreApart, IsEnd}
use lib.Signed.{lt_z}

zero_of_sign : (way : Bool) → with_sign_of 0 way ≡ pos 0
zero_of_sign true = refl
zero_of_sign false = refl

pub magnitude-with_sign_of : (n : ℕ) (way : Bool) → magnitude (with_sign_of n way) ≡ n
magnitude-with_sign_of n false = refl
magnitude-with_sign_of zero true = refl
magnitude-with_sign_of (suc n) true = refl

pub of_non_negative : (z : ℤ) → pos 0 ≤ℤ z → z ≡ pos (magnitude z)
of_non_negative (pos n) h = refl
of_non_negative (negsuc n) h = absurd (omega (arith, ints, h))

pub of_non_positive : (z : ℤ) → z ≤ℤ pos 0 → z ≡ neg_ℤ (pos (magnitude z))
of_non_positive (pos n) h = omega (arith, ints, h)
of_non_positive (negsuc n) h = refl

-- a number has its magnitude and its sign
pub sign_of : (a : ℤ) → a ≡ with_sign_of (magnitude a) (lt_z a (pos 0))
sign_of (negsuc n) = refl
sign_of (pos n) =
    let e : lt_z (pos n) (pos 0) ≡ false = grind (arith, ints) in
    sym (ap (with_sign_of n) e)

pub product : (m n : ℕ) (p q : Bool) → with_sign_of m p *ℤ with_sign_of n q ≡ with_sign_of (m * n) (not (beq p q))
product zero n p q =
    ap (λ z. z *ℤ with_sign_of n q) (zero_of_sign p)
    ∙ zero-*ℤ (with_sign_of n q)
    ∙ sym (ap (λ k. with_sign_of k (not (beq p q))) (zero-mul n) ∙ zero_of_sign (not (beq p q)))
product (suc m) zero p q =
    ap (λ z. with_sign_of (suc m) p *ℤ z) (zero_of_sign q)
    ∙ *ℤ-zero (with_sign_of (suc m) p)
    ∙ sym (ap (λ k. with_sign_of k (not (beq p q))) (mul-zero (suc m)) ∙ zero_of_sign (not (beq p q)))
product (suc m) (suc n) true true = negsuc-*ℤ-negsuc m n
product (suc m) (suc n) true false = negsuc-*ℤ-pos m (suc n)
product (suc m) (suc n) false true = pos-*ℤ-negsuc (suc m) n
product (suc m) (suc n) false false = pos-*ℤ-pos (suc m) (suc n)

first_way : (p way : Bool) → not (beq p (beq p way)) ≡ not way
first_way true true = refl
first_way true false = refl
first_way false true = refl
first_way false false = refl

pub second_way : (p way : Bool) → not (beq p (not (beq p way))) ≡ way
second_way true true = refl
second_way true false = refl
second_way false true = refl
second_way false false = refl

-- a factor of each number, with the sign that makes the sum of both multiples the divisor
abbrev pub first_factor : ℤ → ℕ → Bool → ℤ
first_factor a first greater = with_sign_of first (beq (lt_z a (pos 0)) greater)

abbrev pub second_factor : ℤ → ℕ → Bool → ℤ
second_factor b second greater = with_sign_of second (not (beq (lt_z b (pos 0)) greater))

multiple : (a : ℤ) (times : ℕ) (way turned : Bool) → not (beq (lt_z a (pos 0)) way) ≡ turned
    → a *ℤ with_sign_of times way ≡ with_sign_of (magnitude a * times) turned
multiple a times way turned e =
    ap (λ z. z *ℤ with_sign_of times way) (sign_of a)
    ∙ product (magnitude a) times (lt_z a (pos 0)) way
    ∙ ap (with_sign_of (magnitude a * times)) e

difference : (a b first second g : ℕ) (greater : Bool) → AreApart a b g first second greater
    → with_sign_of (a * first) (not greater) +ℤ with_sign_of (b * second) greater ≡ pos g
difference a b first second g true e = omega (arith, ints)
difference a b first second g false e = omega (arith, ints)

-- the divisor of two numbers, and a factor of each
pub record AreFactors (a b x y z : ℤ) : Type 0 where
  pub gcd : IsGcd (magnitude a) (magnitude b) (magnitude z)
  pub total : (a *ℤ x) +ℤ (b *ℤ y) ≡ z
  pub first_within : magnitude x ≤ magnitude b / magnitude z
  pub second_within : magnitude y ≤ magnitude a / magnitude z

within : (n g total : ℕ) (way : Bool) → 0 < g → n * g ≤ total → magnitude (with_sign_of n way) ≤ total / g
within n g total way some h = omega (arith, magnitude-with_sign_of n way, le-div n total g some h)

pub factors : (a b : ℤ) {g first second : ℕ} {greater : Bool} → 0 < magnitude a → IsEnd (magnitude a) (magnitude b) g first second greater
    → AreFactors a b (first_factor a first greater) (second_factor b second greater) (pos g)
factors a b {g = g} {first = first} {second = second} {greater = greater} some end =
    let below = lt_z a (pos 0) in
    let other_below = lt_z b (pos 0) in
    let more : 0 < g = pos_of_dvd_of_pos end.divisor.0 some in
    let one = multiple a first (beq below greater) (not greater) (first_way below greater) in
    let other = multiple b second (not (beq other_below greater)) greater (second_way other_below greater) in
    record {
      gcd = end.divisor;
      total = ap (λ z. z +ℤ (b *ℤ second_factor b second greater)) one
          ∙ ap (λ z. with_sign_of (magnitude a * first) (not greater) +ℤ z) other
          ∙ difference (magnitude a) (magnitude b) first second g greater end.apart;
      first_within = within first g (magnitude b) (beq below greater) more end.first_within;
      second_within = within second g (magnitude a) (not (beq other_below greater)) more end.second_within;
    }

-- of 0 and another number
pub gcd_of_zero : (a b z : ℤ) → a ≡ pos 0 → z ≡ pos (magnitude b) → IsGcd (magnitude a) (magnitude b) (magnitude z)
gcd_of_zero a b z none e =
    subst (IsGcd (magnitude a) (magnitude b)) (sym (ap magnitude e))
    (IsGcd-swap (magnitude b) (magnitude a) (magnitude b) (IsGcd-from_zero (magnitude b) (magnitude a) (ap magnitude none)))
