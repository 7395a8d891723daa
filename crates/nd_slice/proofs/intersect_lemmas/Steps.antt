-- Euclid's steps: each keeps the common divisors, and the multiples that the numbers are of the two first ones.
use Rattle.std.proofs.Common.{◌≡◌, ℕ, ◌+◌, ◌*◌, ◌/◌, ◌%◌, ◌<◌, ◌≤◌, Bool, true, false, not, arith, ap, sym, refl, subst, div-add-mod'}
use Rattle.std.proofs.Common.{inl, inr, mul-le-mul_right, le-mul_of_pos_right, if◌then◌else◌}
use Rattle.std.proofs.lemmas.Bool.{cases_lt}
use Rattle.std.proofs.lemmas.Nat.Gcd.{IsGcd-from_zero, IsGcd-from_mod}
use Rattle.std.specs.Int.{IsGcd}

-- a multiple of a and one of b differ by number, and which of them is the greater one
abbrev pub AreApart : ℕ → ℕ → ℕ → ℕ → ℕ → Bool → Type 0
AreApart a b number first second first_is_greater =
    first * a + (if first_is_greater then 0 else number) ≡ second * b + (if first_is_greater then number else 0)

-- how far the steps have come
pub record IsStep (a b gcd rest first next_first second next_second : ℕ) (first_is_greater : Bool) : Type 0 where
  pub divisors : (g : ℕ) → IsGcd gcd rest g → IsGcd a b g
  pub some : 0 < gcd
  pub apart : AreApart a b gcd first second first_is_greater
  pub next_apart : AreApart a b rest next_first next_second (not first_is_greater)
  pub first_area : next_first * gcd + first * rest ≡ b
  pub second_area : next_second * gcd + second * rest ≡ a
  pub ordered : rest ≡ 0 → (first ≤ next_first) × (second ≤ next_second)

pub start : (a b : ℕ) → 0 < a → 0 < b → IsStep a b a b 1 0 0 1 true
start a b p q = record {
  divisors = λ g h. h;
  some = p;
  apart = omega arith;
  next_apart = omega arith;
  first_area = omega arith;
  second_area = omega arith;
  ordered = λ e. absurd (omega arith);
}

module _ (a b times rest left whole : ℕ) (e : times * rest + left ≡ whole) where
  area : (first next_first : ℕ) {total : ℕ} → next_first * whole + first * rest ≡ total
      → (first + times * next_first) * rest + next_first * left ≡ total
  area first next_first h =
      let more : next_first * (times * rest + left) ≡ next_first * whole = ap (λ n. next_first * n) e in
      omega arith

  apart_on : (first next_first second next_second : ℕ) (greater : Bool) → AreApart a b whole first second greater
      → AreApart a b rest next_first next_second (not greater)
      → AreApart a b left (first + times * next_first) (second + times * next_second) greater
  apart_on first next_first second next_second true p q =
      let more : times * (next_first * a + rest) ≡ times * (next_second * b + 0) = ap (λ n. times * n) q in
      omega arith
  apart_on first next_first second next_second false p q =
      let more : times * (next_first * a + 0) ≡ times * (next_second * b + rest) = ap (λ n. times * n) q in
      omega arith

  grows : left ≡ 0 → 0 < whole → (before next : ℕ) → next ≤ before + times * next
  grows none some before next =
      let moves : 0 < times = elim (cases_lt 0 times) [
        | inl h ↦ h
        | inr z ↦ let still : times ≡ 0 = omega arith in absurd (omega (arith, ap (λ n. n * rest) still))
      ] in
      omega (arith, le-mul_of_pos_right next moves)

not_not : (b : Bool) → not (not b) ≡ b
not_not true = refl
not_not false = refl

-- a part of a sum is at most the sum
pub part_within : (part other : ℕ) {rest total : ℕ} → 0 < rest → part * rest + other ≡ total → part ≤ total
part_within part other some e = omega (arith, le-mul_of_pos_right part some)

-- at the end
pub record IsEnd (a b gcd first second : ℕ) (first_is_greater : Bool) : Type 0 where
  pub divisor : IsGcd a b gcd
  pub apart : AreApart a b gcd first second first_is_greater
  pub first_within : first * gcd ≤ b
  pub second_within : second * gcd ≤ a

module _ {a b gcd rest first next_first second next_second : ℕ} {greater : Bool}
    (at : IsStep a b gcd rest first next_first second next_second greater) where
  pub step : 0 < rest → IsStep a b rest (gcd % rest) next_first (first + gcd / rest * next_first)
      next_second (second + gcd / rest * next_second) (not greater)
  step moves =
      let times = gcd / rest in
      let left = gcd % rest in
      let whole : times * rest + left ≡ gcd = div-add-mod' gcd rest in
      let apart = apart_on a b times rest left gcd whole first next_first second next_second greater at.apart at.next_apart in
      record {
        divisors = λ g h. at.divisors g (IsGcd-from_mod gcd rest g h);
        some = moves;
        apart = at.next_apart;
        next_apart = subst (AreApart a b left (first + times * next_first) (second + times * next_second)) (sym (not_not greater)) apart;
        first_area = area a b times rest left gcd whole first next_first at.first_area;
        second_area = area a b times rest left gcd whole second next_second at.second_area;
        ordered = λ e. (
          grows a b times rest left gcd whole e at.some first next_first,
          grows a b times rest left gcd whole e at.some second next_second,
        );
      }

  pub ended : rest ≡ 0 → IsEnd a b gcd first second greater
  ended none =
      let order = at.ordered none in
      let first_nothing : first * rest ≡ first * 0 = ap (λ n. first * n) none in
      let second_nothing : second * rest ≡ second * 0 = ap (λ n. second * n) none in
      record {
        divisor = at.divisors gcd (IsGcd-from_zero gcd rest none);
        apart = at.apart;
        first_within = omega (arith, at.first_area, mul-le-mul_right gcd order.0);
        second_within = omega (arith, at.second_area, mul-le-mul_right gcd order.1);
      }
