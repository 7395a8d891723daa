-- Equations in whole numbers, by the multiples of one magnitude that a rest completes to multiples of the other.
use Rattle.std.proofs.Common.{◌≡◌, ℕ, zero, suc, ◌+◌, ◌-◌, ◌*◌, ◌/◌, ◌%◌, ◌<◌, true, not, arith, ap, sym, ◌∙◌, refl, subst, div-add-mod'}
use Rattle.std.proofs.Common.{inl, inr, ℤ, pos, negsuc, ◌+ℤ◌, ◌*ℤ◌, mul_comm, ◌≤ℤ◌, ◌↔◌, neg_ℤ}
use Rattle.std.proofs.Math.Bool.{beq}
use Rattle.std.proofs.Math.IntN.{pos-*ℤ-pos}
use Rattle.std.proofs.Math.Nat.{div-mul_cancel, dvd-mul_left, dvd-mul_right, dvd-add_iff_left, dvd-add_iff_right}
use Rattle.std.proofs.lemmas.Bool.{cases_lt}
use Rattle.std.proofs.lemmas.Nat.{mod_below}
use Rattle.std.proofs.lemmas.Nat.Gcd.{dvd_refl, dvd_trans}
use Rattle.std.proofs.lemmas.Int.{ints, unsigned_abs-mul}
use Rattle.std.specs.Int.{◌∣◌, int_rem_euclid}
use Rattle.nd_slice.proofs.Definitions.{IsLeastMultiplier, IsLeastSolution, Solves, added_of, magnitude, with_sign_of}
use Rattle.nd_slice.proofs.intersect_lemmas.Signs.{sign_of, product, second_way, magnitude-with_sign_of}
use lib.Signed.{lt_z}

pub magnitude-neg_ℤ : (z : ℤ) → magnitude (neg_ℤ z) ≡ magnitude z
magnitude-neg_ℤ (pos zero) = refl
magnitude-neg_ℤ (pos (suc n)) = refl
magnitude-neg_ℤ (negsuc n) = refl

multiple_to : (b y w : ℤ) → b *ℤ y ≡ w → magnitude b ∣ magnitude w
multiple_to b y w e = subst (λ n. magnitude b ∣ n) (sym (unsigned_abs-mul b y) ∙ ap magnitude e) (dvd-mul_right (magnitude b) (magnitude y))

multiple_from : (b w : ℤ) → magnitude b ∣ magnitude w → (y : ℤ) × (b *ℤ y ≡ w)
multiple_from b w divides =
    let times = magnitude w / magnitude b in
    let whole : times * magnitude b ≡ magnitude w = div-mul_cancel (magnitude b) divides in
    let below = lt_z b (pos 0) in
    let way = not (beq below (lt_z w (pos 0))) in (
      with_sign_of times way,
      ap (λ z. z *ℤ with_sign_of times way) (sign_of b)
          ∙ product (magnitude b) times below way
          ∙ ap (with_sign_of (magnitude b * times)) (second_way below (lt_z w (pos 0)))
          ∙ ap (λ n. with_sign_of n (lt_z w (pos 0))) (mul_comm (magnitude b) times ∙ whole)
          ∙ sym (sign_of w),
    )

negative_times : (a x : ℕ) → negsuc a *ℤ pos x ≡ neg_ℤ (pos (suc a * x))
negative_times a x = refl

-- x solves the equation exactly where the magnitude of b divides what a's multiple and what is added come to
solves_to : (a b c : ℤ) (x : ℕ) → Solves a b c (pos x) → magnitude b ∣ magnitude (pos (magnitude a * x) +ℤ added_of a c)
solves_to (pos a) b c x s =
    let e : b *ℤ s.0 ≡ neg_ℤ (pos (a * x) +ℤ neg_ℤ c) = omega (arith, ints, s.1, pos-*ℤ-pos a x) in
    rw (← magnitude-neg_ℤ (pos (a * x) +ℤ neg_ℤ c)) (multiple_to b s.0 (neg_ℤ (pos (a * x) +ℤ neg_ℤ c)) e)
solves_to (negsuc a) b c x s =
    let e : b *ℤ s.0 ≡ pos (suc a * x) +ℤ c = omega (arith, ints, s.1, negative_times a x) in
    multiple_to b s.0 (pos (suc a * x) +ℤ c) e

solves_from : (a b c : ℤ) (x : ℕ) → magnitude b ∣ magnitude (pos (magnitude a * x) +ℤ added_of a c) → Solves a b c (pos x)
solves_from (pos a) b c x divides =
    let w = pos (a * x) +ℤ neg_ℤ c in
    let y = multiple_from b (neg_ℤ w) (subst (λ n. magnitude b ∣ n) (sym (magnitude-neg_ℤ w)) divides) in
    (y.0, omega (arith, ints, y.1, pos-*ℤ-pos a x))
solves_from (negsuc a) b c x divides =
    let y = multiple_from b (pos (suc a * x) +ℤ c) divides in
    (y.0, omega (arith, ints, y.1, negative_times a x))

-- a remainder takes the place of the number that it is left of
module _ (d whole : ℕ) (h : d ∣ whole) where
  over : (m n : ℕ) → (d ∣ m) ↔ (d ∣ m + n * whole)
  over m n = dvd-add_iff_left d (dvd_trans d h (dvd-mul_left whole n))

  remains : (m rest : ℕ) (z : ℤ) → 0 < whole → pos rest ≡ int_rem_euclid z (pos whole) → (d ∣ magnitude (pos m +ℤ z)) ↔ (d ∣ m + rest)
  remains m rest (pos n) some e =
      let split = div-add-mod' n whole in
      let left : rest ≡ n % whole = omega (arith, ints, e) in
      let same : m + rest + n / whole * whole ≡ m + n = omega arith in
      let both = rw same at (over (m + rest) (n / whole)) in
      (λ p. both.1 p, λ p. both.0 p)
  remains m rest (negsuc n) some e =
      let split = div-add-mod' n whole in
      let small : n % whole < whole = mod_below n whole some in
      let left : rest ≡ whole - 1 - n % whole = omega (arith, ints, e) in
      let sum : rest + suc n ≡ whole + n / whole * whole = omega arith in
      let multiple : d ∣ whole + n / whole * whole = (over whole (n / whole)).0 h in
      elim (cases_lt m (suc n)) [
        | inl below ↦
            let far : pos m +ℤ negsuc n ≡ with_sign_of (suc n - m) true = omega (arith, ints) in
            let size : magnitude (pos m +ℤ negsuc n) ≡ suc n - m = ap magnitude far ∙ magnitude-with_sign_of (suc n - m) true in
            let whole_of : m + rest + (suc n - m) ≡ whole + n / whole * whole = omega arith in
            let total : d ∣ m + rest + (suc n - m) = rw whole_of multiple in (
              λ p. (dvd-add_iff_left d (rw size at p)).1 total,
              λ p. rw size ((dvd-add_iff_right d p).1 total),
            )
        | inr above ↦
            let far : pos m +ℤ negsuc n ≡ pos (m - suc n) = omega (arith, ints) in
            let size : magnitude (pos m +ℤ negsuc n) ≡ m - suc n = ap magnitude far in
            let whole_of : m - suc n + (whole + n / whole * whole) ≡ m + rest = omega arith in
            let both = rw whole_of at (dvd-add_iff_left d {m = m - suc n} multiple) in
            (λ p. both.0 (rw size at p), λ p. rw size (both.1 p))
      ]

-- what the code divides: what is added, by the magnitude of b
pub record IsRest (a b c : ℤ) (rest : ℕ) : Type 0 where
  pub some : 0 < magnitude b
  pub is_rest : pos rest ≡ int_rem_euclid (added_of a c) (pos (magnitude b))

added_magnitude : (a c : ℤ) → magnitude (pos 0 +ℤ added_of a c) ≡ magnitude c
added_magnitude (pos a) c =
    let e : pos 0 +ℤ neg_ℤ c ≡ neg_ℤ c = omega (arith, ints) in
    ap magnitude e ∙ magnitude-neg_ℤ c
added_magnitude (negsuc a) c =
    let e : pos 0 +ℤ c ≡ c = omega (arith, ints) in
    ap magnitude e

module _ {a b c : ℤ} {rest : ℕ} (at : IsRest a b c rest) where
  same_divisors : (k : ℕ) → (magnitude b ∣ magnitude (pos (magnitude a * k) +ℤ added_of a c)) ↔ (magnitude b ∣ magnitude a * k + rest)
  same_divisors k =
      remains (magnitude b) (magnitude b) (dvd_refl (magnitude b)) (magnitude a * k) rest (added_of a c) at.some at.is_rest

  least_of : {x : ℕ} → IsLeastMultiplier (magnitude a) (magnitude b) rest x
      → (other : ℤ) → pos 0 ≤ℤ other → Solves a b c other → pos x ≤ℤ other
  least_of h (pos k) on s = omega (arith, ints, h.least k ((same_divisors k).0 (solves_to a b c k s)))
  least_of h (negsuc k) on s = absurd (omega (arith, ints, on))

  pub least_solution : {x : ℕ} → IsLeastMultiplier (magnitude a) (magnitude b) rest x → IsLeastSolution a b c (pos x)
  least_solution {x = x} h = record {
    non_negative = omega (arith, ints);
    solves = solves_from a b c x ((same_divisors x).1 h.divides);
    least = least_of h;
  }

  -- the rest has the divisors of c that b has
  pub rest_divisors : (g : ℕ) → g ∣ magnitude b → (g ∣ rest) ↔ (g ∣ magnitude c)
  rest_divisors g h =
      let both = remains g (magnitude b) h 0 rest (added_of a c) at.some at.is_rest in
      let zero_more : 0 + rest ≡ rest = omega arith in
      let size = added_magnitude a c in
      (λ p. rw size at (both.1 (rw zero_more p)), λ p. rw zero_more at (both.0 (rw size p)))
