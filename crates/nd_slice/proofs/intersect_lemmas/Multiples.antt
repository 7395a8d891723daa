-- Which multiples of a factor a rest completes to multiples of a modulus.
use Rattle.std.proofs.Common.{◌≡◌, ℕ, ◌+◌, ◌-◌, ◌*◌, ◌/◌, ◌%◌, ◌<◌, ◌≤◌, arith, ap, sym, ◌∙◌, subst, div-add-mod', inl, inr}
use Rattle.std.proofs.Math.Nat.{add_assoc, mul_left_comm, div-mul_cancel, mul-sub, pos_of_dvd_of_pos, dvd-mul_left}
use Rattle.std.proofs.Math.Nat.{dvd-mul_left_of_dvd, dvd-add, dvd-add_iff_left, dvd-add_iff_right, dvd-mul_right_of_dvd, dvd-sub}
use Rattle.std.proofs.Math.Nat.{mul-dvd-mul_left, dvd_of_mul-dvd-mul_right}
use Rattle.std.proofs.lemmas.Bool.{cases_lt}
use Rattle.std.proofs.lemmas.Nat.{le-div}
use Rattle.std.proofs.lemmas.Nat.Gcd.{dvd_trans, le_of_dvd, mod-eq-zero_of_dvd, same_from_IsGcd}
use Rattle.std.specs.Int.{IsGcd, ◌∣◌}
use Rattle.nd_slice.proofs.Definitions.{IsLeastMultiplier}

pub divisor_some : (a b g : ℕ) → 0 < a → IsGcd a b g → 0 < g
divisor_some a b g some h = pos_of_dvd_of_pos h.0 some

pub quotient_some : (a b g : ℕ) → 0 < b → IsGcd a b g → 0 < b / g
quotient_some a b g some h = omega (arith, le-div 1 b g (pos_of_dvd_of_pos h.1 some) (omega (arith, le_of_dvd some h.1)))

module _ (first second g : ℕ) where
  turned : (more other : ℕ) {a b : ℕ} → (second + other) * g ≡ a → (first + more) * g ≡ b → first * a + g ≡ second * b + 0
      → a * more ≡ g + other * b
  turned more other ea eb e = omega (
    arith,
    e,
    ap (λ n. first * n) ea,
    ap (λ n. n * more) ea,
    ap (λ n. second * n) eb,
    ap (λ n. other * n) eb,
  )

  -- where the multiple of the first number is the smaller one, what is left of the other number's part serves
  pub inverse_back : {a b : ℕ} → 0 < g → IsGcd a b g → first * a + g ≡ second * b + 0 → first * g ≤ b → second * g ≤ a
      → (times : ℕ) × (a * (b / g - first) ≡ g + times * b)
  inverse_back {a = a} {b = b} some h e p q =
      let one : first ≤ b / g = le-div first b g some p in
      let other : second ≤ a / g = le-div second a g some q in
      let ea : (second + (a / g - second)) * g ≡ a = ap (λ n. n * g) (omega arith) ∙ div-mul_cancel g h.0 in
      let eb : (first + (b / g - first)) * g ≡ b = ap (λ n. n * g) (omega arith) ∙ div-mul_cancel g h.1 in
      (a / g - second, turned (b / g - first) (a / g - second) ea eb e)

-- what the code finds: the greatest common divisor, a multiplier of the factor that leaves it, and the multiplier that takes the rest back
pub record IsFound (factor modulus rest gcd multiplier times back : ℕ) : Type 0 where
  pub factor_some : 0 < factor
  pub modulus_some : 0 < modulus
  pub divisor : IsGcd factor modulus gcd
  pub divides : gcd ∣ rest
  pub inverse : factor * multiplier ≡ gcd + times * modulus
  pub is_back : back ≡ (multiplier * (rest / gcd)) % (modulus / gcd)

-- equations of what it finds, over plain numbers
swapped : (k g m : ℕ) {a b : ℕ} → k * g ≡ a → m * g ≡ b → k * b ≡ a * m
swapped k g m p q = omega (arith, ap (λ n. k * n) q, ap (λ n. n * m) p)

spread : (factor multiplier times modulus gcd : ℕ) → factor * multiplier ≡ gcd + times * modulus
    → (n : ℕ) → factor * (multiplier * n) ≡ n * gcd + times * n * modulus
spread factor multiplier times modulus gcd e n = omega (arith, ap (λ m. m * n) e)

completed : (factor number turned back : ℕ) {whole total : ℕ} → turned + back ≡ whole → factor * whole ≡ total
    → factor * (number + back) + factor * turned ≡ factor * number + total
completed factor number turned back e f = omega (arith, f, ap (λ n. factor * n) e)

module _ {factor modulus rest gcd multiplier times back : ℕ} (at : IsFound factor modulus rest gcd multiplier times back) where
  whole_factor : modulus ∣ factor * (modulus / gcd)
  whole_factor =
      let one = div-mul_cancel gcd at.divisor.0 in
      let other = div-mul_cancel gcd at.divisor.1 in
      subst (λ n. modulus ∣ n) (swapped (factor / gcd) gcd (modulus / gcd) one other) (dvd-mul_left modulus (factor / gcd))

  -- a number that the multiplier takes back completes the rest
  found_divides : (number : ℕ) → modulus / gcd ∣ number + back → modulus ∣ factor * number + rest
  found_divides number h =
      let apart = modulus / gcd in
      let share = rest / gcd in
      let turned = multiplier * share / apart * apart in
      let split : turned + back ≡ multiplier * share = ap (λ n. turned + n) at.is_back ∙ div-add-mod' (multiplier * share) apart in
      let spent : factor * (multiplier * share) ≡ rest + times * share * modulus =
      spread factor multiplier times modulus gcd at.inverse share ∙ ap (λ n. n + times * share * modulus) (div-mul_cancel gcd at.divides) in
      let one : modulus ∣ factor * (number + back) = dvd_trans modulus whole_factor (mul-dvd-mul_left apart factor h) in
      let other : modulus ∣ factor * turned =
      dvd_trans modulus whole_factor (mul-dvd-mul_left apart factor (dvd-mul_left apart (multiplier * share / apart))) in
      let both : modulus ∣ factor * number + (rest + times * share * modulus) =
      subst (λ n. modulus ∣ n) (completed factor number turned back split spent) (dvd-add modulus one other) in
      (dvd-add_iff_left modulus (dvd-mul_left modulus (times * share))).1 (rw add_assoc both)

  -- two such numbers lie a multiple of modulus / gcd apart
  found_apart : (low high : ℕ) → low ≤ high → modulus ∣ factor * low + rest → modulus ∣ factor * high + rest → modulus / gcd ∣ high - low
  found_apart low high order p q =
      let far = high - low in
      let less : factor * high + rest - (factor * low + rest) ≡ factor * far = omega (arith, mul-sub factor high low) in
      let multiple : modulus ∣ factor * far = subst (λ n. modulus ∣ n) less (dvd-sub modulus q p) in
      let times_it : modulus ∣ multiplier * (factor * far) = dvd-mul_left_of_dvd modulus multiple multiplier in
      let e : multiplier * (factor * far) ≡ far * gcd + times * far * modulus =
      mul_left_comm multiplier factor far ∙ spread factor multiplier times modulus gcd at.inverse far in
      let rest_of : modulus ∣ far * gcd =
      (dvd-add_iff_left modulus (dvd-mul_left modulus (times * far))).1 (subst (λ n. modulus ∣ n) e times_it) in
      let whole : modulus / gcd * gcd ≡ modulus = div-mul_cancel gcd at.divisor.1 in
      let some : 0 < gcd = divisor_some factor modulus gcd at.factor_some at.divisor in
      dvd_of_mul-dvd-mul_right (modulus / gcd) some (subst (λ n. n ∣ far * gcd) (sym whole) rest_of)

  pub found_least : (number : ℕ) → modulus / gcd ∣ number + back → number < modulus / gcd → IsLeastMultiplier factor modulus rest number
  found_least number h small =
      let divides = found_divides number h in
      record {
        divides = divides;
        least = λ other p. elim (cases_lt other number) [
          | inl below ↦
              let step : modulus / gcd ∣ number - other = found_apart other number (omega arith) p divides in
              let some : 0 < number - other = omega arith in
              absurd (omega (arith, le_of_dvd some step))
          | inr above ↦ above
        ];
      }

-- any greatest common divisor is the one
module _ (a b g other : ℕ) (p : IsGcd a b g) (q : IsGcd a b other) where
  pub same_quotient : b / g ≡ b / other
  same_quotient = ap (λ n. b / n) (same_from_IsGcd a b g other p q)

  pub no_divisor : (rest : ℕ) → 0 < rest % g → other ∣ rest → ⊥
  no_divisor rest left d = omega (arith, mod-eq-zero_of_dvd g (subst (λ n. n ∣ rest) (same_from_IsGcd a b other g q p) d))

  pub that_divisor : (rest : ℕ) → g ∣ rest → other ∣ rest
  that_divisor rest d = subst (λ n. n ∣ rest) (same_from_IsGcd a b g other p q) d

-- what divides both numbers divides a rest that completes a multiple of one to a multiple of the other
pub rest_divided : (a b g number rest : ℕ) → IsGcd a b g → b ∣ a * number + rest → g ∣ rest
rest_divided a b g number rest h divides = (dvd-add_iff_right g (dvd-mul_right_of_dvd g h.0 number)).1 (dvd_trans g h.1 divides)
