use Rattle.std.proofs.Common.{◌+◌, ◌-◌, ◌*◌, ◌/◌, ◌<◌, ◌≡◌, ℕ, arith, refl, subst}
use Rattle.std.proofs.lemmas.Nat.{mod_below}
use Rattle.std.proofs.lemmas.Nat.Gcd.{dvd_refl, dvd-zero, dvd_of_mod-eq-zero}
use Rattle.std.specs.Int.{◌∣◌, IsGcd}
use Rattle.nd_slice.proofs.intersect_lemmas.Multiples.{IsFound, divisor_some, quotient_some, found_least, same_quotient, no_divisor}
use Rattle.nd_slice.proofs.intersect_lemmas.Multiples.{that_divisor, rest_divided}
use Rattle.nd_slice.proofs.intersect.multiplier.least_multiplier.Goals as goal
use Rattle.nd_slice.proofs.intersect.multiplier.least_multiplier.Goals.{After-inverse-gcd, After-multiply_mod-back}

some_of : (c : After-inverse-gcd) → 0 < c.inverse-gcd.result.0
some_of c = divisor_some c.args.factor c.args.modulus c.inverse-gcd.result.0 c.requires.factor_some c.inverse-gcd.ensures.gcd

apart_some : (c : After-inverse-gcd) → 0 < c.args.modulus / c.inverse-gcd.result.0
apart_some c = quotient_some c.args.factor c.args.modulus c.inverse-gcd.result.0 c.requires.modulus_some c.inverse-gcd.ensures.gcd

pub nonzero_rem-rest : goal.nonzero_rem-rest
nonzero_rem-rest c = some_of ((goal.at.nonzero_rem-rest c).After-inverse-gcd)

pub nonzero_div-apart : goal.nonzero_div-apart
nonzero_div-apart c = some_of ((goal.at.nonzero_div-apart c).After-inverse-gcd)

pub nonzero_div-rest : goal.nonzero_div-rest
nonzero_div-rest c = some_of ((goal.at.nonzero_div-rest c).After-inverse-gcd)

pub multiply_mod-back-requires : goal.multiply_mod-back-requires
multiply_mod-back-requires c = apart_some ((goal.at.multiply_mod-back-requires c).After-inverse-gcd)

pub returns-then-rest-gcd-ne0-clause-solvable : goal.returns-then-rest-gcd-ne0-clause-solvable
returns-then-rest-gcd-ne0-clause-solvable c = λ g h. (
  λ is. absurd (cc),
  λ divides. absurd (no_divisor c.args.factor c.args.modulus c.inverse-gcd.result.0 g c.inverse-gcd.ensures.gcd h c.args.rest
      (omega arith) divides),
)

pub returns-then-rest-gcd-ne0-clause-none : goal.returns-then-rest-gcd-ne0-clause-none
returns-then-rest-gcd-ne0-clause-none c = λ number divides.
    let gcd = c.inverse-gcd.result.0 in
    let h = c.inverse-gcd.ensures.gcd in
    let divided = rest_divided c.args.factor c.args.modulus gcd number c.args.rest h divides in
    no_divisor c.args.factor c.args.modulus gcd gcd h h c.args.rest (omega arith) divided

found : (c : After-multiply_mod-back) → IsFound c.args.factor c.args.modulus c.args.rest
    c.inverse-gcd.result.0 c.inverse-gcd.result.1 c.inverse-gcd.ensures.inverse.0 c.multiply_mod-back.result
found c = record {
  factor_some = c.requires.factor_some;
  modulus_some = c.requires.modulus_some;
  divisor = c.inverse-gcd.ensures.gcd;
  divides = dvd_of_mod-eq-zero c.inverse-gcd.result.0 (omega arith);
  inverse = c.inverse-gcd.ensures.inverse.1;
  is_back = c.multiply_mod-back.ensures;
}

below : (c : After-multiply_mod-back) → c.multiply_mod-back.result < c.args.modulus / c.inverse-gcd.result.0
below c =
    let gcd = c.inverse-gcd.result.0 in
    let some = quotient_some c.args.factor c.args.modulus gcd c.requires.modulus_some c.inverse-gcd.ensures.gcd in
    omega (arith, mod_below (c.inverse-gcd.result.1 * (c.args.rest / gcd)) (c.args.modulus / gcd) some, c.multiply_mod-back.ensures)

-- any greatest common divisor divides the rest, and leaves the same quotient
solvable : (c : After-multiply_mod-back) (g : ℕ) → IsGcd c.args.factor c.args.modulus g → g ∣ c.args.rest
solvable c g h =
    that_divisor c.args.factor c.args.modulus c.inverse-gcd.result.0 g c.inverse-gcd.ensures.gcd h c.args.rest (found c).divides

same_apart : (c : After-multiply_mod-back) (g : ℕ) → IsGcd c.args.factor c.args.modulus g
    → c.args.modulus / c.inverse-gcd.result.0 ≡ c.args.modulus / g
same_apart c g h = same_quotient c.args.factor c.args.modulus c.inverse-gcd.result.0 g c.inverse-gcd.ensures.gcd h

pub overflow_sub-least : goal.overflow_sub-least
overflow_sub-least c = omega (arith, below ((goal.at.overflow_sub-least c).After-multiply_mod-back))

pub returns-then-back-eq0 : goal.returns-then-back-eq0
returns-then-back-eq0 c =
    let at = (goal.at.returns-then-back-eq0 c).After-multiply_mod-back in
    let apart = c.args.modulus / c.inverse-gcd.result.0 in
    let some : 0 < apart = omega (arith, below at) in
    let back : apart ∣ 0 + c.multiply_mod-back.result = subst (λ n. apart ∣ n) (omega arith) (dvd-zero apart) in
    record {
      solvable = λ g h. (λ is. solvable at g h, λ divides. refl);
      least = found_least (found at) 0 back some;
      apart = same_apart at;
      none = tt;
      within = some;
    }

pub returns-else-back-eq0 : goal.returns-else-back-eq0
returns-else-back-eq0 c =
    let at = (goal.at.returns-else-back-eq0 c).After-multiply_mod-back in
    let apart = c.args.modulus / c.inverse-gcd.result.0 in
    let here : c.multiply_mod-back.result < apart = below at in
    let back : apart ∣ apart - c.multiply_mod-back.result + c.multiply_mod-back.result =
    subst (λ n. apart ∣ n) (omega arith) (dvd_refl apart) in
    record {
      solvable = λ g h. (λ is. solvable at g h, λ divides. refl);
      least = found_least (found at) (apart - c.multiply_mod-back.result) back (omega arith);
      apart = same_apart at;
      none = tt;
      within = omega arith;
    }
