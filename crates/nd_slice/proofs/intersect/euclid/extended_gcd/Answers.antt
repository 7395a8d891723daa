use Rattle.std.proofs.Common.{rules, ◌≡◌, ◌<◌, ◌≤◌, arith, ap, ◌∙◌, pos, to_z, of_z}
use Rattle.std.specs.Int.{w128}
use Rattle.std.proofs.lemmas.Int.{ints, to_z_pos, to_z-of_z}
use Rattle.std.proofs.lemmas.Nat.Gcd.{IsGcd-swap, le_of_dvd}
use Rattle.nd_slice.proofs.Definitions.{magnitude}
use Rattle.nd_slice.proofs.intersect_lemmas.Signs.{factors, gcd_of_zero, first_factor, second_factor}
use Rattle.nd_slice.proofs.intersect.euclid.extended_gcd.Goals as goal

pub returns-then-a-eq0-clause-gcd : goal.returns-then-a-eq0-clause-gcd
returns-then-a-eq0-clause-gcd c =
    let z : to_z w128 (of_z w128 c.abs.result) ≡ pos (magnitude c.args.b) =
    to_z-of_z w128 c.abs.result (search rules) ∙ c.abs.ensures.value ∙ ap (λ k. pos (magnitude k)) (to_z-of_z w128 c.args.b c.ranges.b) in
    gcd_of_zero c.args.a c.args.b (to_z w128 (of_z w128 c.abs.result)) (omega (arith, ints, c.ranges.a)) z

pub returns-then-b-eq0-clause-gcd : goal.returns-then-b-eq0-clause-gcd
returns-then-b-eq0-clause-gcd c =
    let r = c.abs-then-b-eq0.result in
    let z : to_z w128 (of_z w128 r) ≡ pos (magnitude c.args.a) =
    to_z-of_z w128 r (search rules) ∙ c.abs-then-b-eq0.ensures.value ∙ ap (λ k. pos (magnitude k)) (to_z-of_z w128 c.args.a c.ranges.a) in
    IsGcd-swap _ _ _ (gcd_of_zero c.args.b c.args.a (to_z w128 (of_z w128 r)) (omega (arith, ints, c.ranges.b)) z)

pub returns-else-b-eq0 : goal.returns-else-b-eq0
returns-else-b-eq0 c =
    let a = c.args.a in
    let b = c.args.b in
    let found = c.common_divisor-found.result in
    let greater = found.first_is_greater in
    let one : to_z w128 (of_z w128 a) ≡ a = to_z-of_z w128 a c.ranges.a in
    let other : to_z w128 (of_z w128 b) ≡ b = to_z-of_z w128 b c.ranges.b in
    let first_size : c.unsigned_abs.result ≡ magnitude a = c.unsigned_abs.ensures.value ∙ ap magnitude one in
    let second_size : c.unsigned_abs-else-b-eq0.result ≡ magnitude b = c.unsigned_abs-else-b-eq0.ensures.value ∙ ap magnitude other in
    let known = rw (first_size, second_size) at c.common_divisor-found.ensures in
    let some : 0 < magnitude a = omega (arith, ints, c.ranges.a) in
    let x : to_z w128 (of_z w128 c.with_sign-x.result) ≡ first_factor a found.first greater =
    to_z-of_z w128 c.with_sign-x.result (search rules) ∙ c.with_sign-x.ensures ∙ ap (λ k. first_factor k found.first greater) one in
    let y : to_z w128 (of_z w128 c.with_sign-y.result) ≡ second_factor b found.second greater =
    to_z-of_z w128 c.with_sign-y.result (search rules) ∙ c.with_sign-y.ensures ∙ ap (λ k. second_factor k found.second greater) other in
    let small : found.gcd ≤ magnitude a = le_of_dvd some known.gcd.0 in
    let z : to_z w128 found.gcd ≡ pos found.gcd = to_z_pos w128 found.gcd (omega (arith, c.requires.first_small)) in
    let kept = factors a b some (record {
      divisor = known.gcd;
      apart = known.apart;
      first_within = known.first_within;
      second_within = known.second_within;
    }) in
    let are = rw (← x, ← y, ← z) at kept in
    record {
      non_negative = omega (arith, ints, z);
      gcd = are.gcd;
      sum = are.total;
      first_zero = λ e. absurd (omega (arith, ints, c.ranges.a, ap magnitude e));
      second_zero = λ _ e. absurd (omega (arith, ints, c.ranges.b, ap magnitude e));
      first_within = λ _ _. are.first_within;
      second_within = λ _ _. are.second_within;
    }
