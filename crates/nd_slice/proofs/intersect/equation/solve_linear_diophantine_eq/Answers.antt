use Rattle.std.proofs.Common.{rules, ◌≡◌, arith, ap, sym, ◌∙◌, refl, subst, pos, to_z, of_z, ◌≤ℤ◌}
use Rattle.std.specs.Int.{w128, int_rem_euclid}
use Rattle.std.proofs.lemmas.Int.{ints, to_z_pos, to_z-of_z}
use Rattle.nd_slice.proofs.Definitions.{IsLeastSolution, added_of, magnitude}
use Rattle.nd_slice.proofs.intersect_lemmas.Signs.{of_non_negative}
use Rattle.nd_slice.proofs.intersect_lemmas.Equations.{IsRest, least_solution, rest_divisors}
use Rattle.nd_slice.proofs.intersect.equation.solve_linear_diophantine_eq.Goals as goal
use Rattle.nd_slice.proofs.intersect.equation.solve_linear_diophantine_eq.Goals.{After-least_multiplier-found}

first_size : (c : After-least_multiplier-found) → c.unsigned_abs.result ≡ magnitude c.args.a
first_size c = c.unsigned_abs.ensures.value ∙ ap magnitude (to_z-of_z w128 c.args.a c.ranges.a)

second_size : (c : After-least_multiplier-found) → c.unsigned_abs-2.result ≡ magnitude c.args.b
second_size c = c.unsigned_abs-2.ensures.value ∙ ap magnitude (to_z-of_z w128 c.args.b c.ranges.b)

rest_of : (c : After-least_multiplier-found)
    → IsRest c.args.a c.args.b c.args.c (magnitude (to_z w128 (of_z w128 c.rem_euclid-rest.result)))
rest_of c =
    let r = c.rem_euclid-rest.result in
    let kept : to_z w128 (of_z w128 r) ≡ r = to_z-of_z w128 r (search rules) in
    let added : to_z w128 (of_z w128 c.added.result) ≡ added_of c.args.a c.args.c =
    to_z-of_z w128 c.added.result (search rules) ∙ c.added.ensures
    ∙ ap (λ n. added_of n (to_z w128 (of_z w128 c.args.c))) (to_z-of_z w128 c.args.a c.ranges.a)
    ∙ ap (λ n. added_of c.args.a n) (to_z-of_z w128 c.args.c c.ranges.c) in
    let size : to_z w128 (of_z w128 c.abs.result) ≡ pos (magnitude c.args.b) =
    to_z-of_z w128 c.abs.result (search rules) ∙ c.abs.ensures.value ∙ ap (λ n. pos (magnitude n)) (to_z-of_z w128 c.args.b c.ranges.b) in
    let value : r ≡ int_rem_euclid (added_of c.args.a c.args.c) (pos (magnitude c.args.b)) =
    c.rem_euclid-rest.ensures.value ∙ ap (λ n. int_rem_euclid n (to_z w128 (of_z w128 c.abs.result))) added
    ∙ ap (λ n. int_rem_euclid (added_of c.args.a c.args.c) n) size in
    let on : pos 0 ≤ℤ r = omega (arith, ints, c.rem_euclid-rest.ensures.lower_bound) in
    record {
      some = omega (arith, ints, c.ranges.b, c.requires.second_some);
      is_rest = ap (λ n. pos (magnitude n)) kept ∙ sym (of_non_negative r on) ∙ value;
    }

pub returns-in-None-clause-solvable : goal.returns-in-None-clause-solvable
returns-in-None-clause-solvable c g h =
    let at = (goal.at.returns-in-None-clause-solvable c).After-least_multiplier-found in
    let known = rw (first_size at, second_size at) at c.in-None.ensures in
    let both = rest_divisors (rest_of at) g h.1 in
    (λ is. absurd (cc), λ divides. (known.solvable g h).1 (both.1 divides))

pub returns-in-Some : goal.returns-in-Some
returns-in-Some c =
    let at = (goal.at.returns-in-Some c).After-least_multiplier-found in
    let known = rw (first_size at, second_size at) at c.in-Some.ensures in
    let least : to_z w128 c.in-Some.least ≡ pos c.in-Some.least = to_z_pos w128 c.in-Some.least (search rules) in
    let apart : to_z w128 c.in-Some.apart ≡ pos c.in-Some.apart = to_z_pos w128 c.in-Some.apart (search rules) in
    record {
      solvable = λ g h. (λ is. (rest_divisors (rest_of at) g h.1).0 ((known.solvable g h).0 refl), λ divides. refl);
      least = subst (IsLeastSolution c.args.a c.args.b c.args.c) (sym least) (least_solution (rest_of at) known.least);
      apart = λ g h. apart ∙ ap pos (known.apart g h);
      within = omega (arith, ints, least, apart, known.within);
    }
