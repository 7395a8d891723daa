use Rattle.std.proofs.Common.{◌≡◌, ◌%◌, arith, refl}
use Rattle.nd_slice.proofs.intersect_lemmas.Sequences.{intersects_at_zero, intersects_first, intersects_by_least, intersects_by_none}
use Rattle.nd_slice.proofs.intersect.sequence.intersects_within.Goals as goal
use Rattle.nd_slice.proofs.intersect.sequence.intersects_within.Goals.{then-first_step-eq1-via-then-first_step-eq1}
use Rattle.nd_slice.proofs.intersect.sequence.intersects_within.Goals.{
  then-first_step-eq1-via-else-first_step-eq1+then-ahead-first_step-eq0,
}

pub returns-then-first_step-eq1 : goal.returns-then-first_step-eq1
returns-then-first_step-eq1 c =
    let none_left : c.args.ahead % c.args.first_step ≡ 0 = elim c.then-first_step-eq1.branch [
      | then-first_step-eq1-via-then-first_step-eq1 w ↦ omega (arith, w.if-first_step-eq1.true)
      | then-first_step-eq1-via-else-first_step-eq1+then-ahead-first_step-eq0 w ↦ w.if-ahead-first_step-eq0.true
    ] in
    (λ is. intersects_first c.args.ahead c.args.first_step c.args.second_step c.args.room none_left, λ intersects. refl)

pub returns-then-room-second_step : goal.returns-then-room-second_step
returns-then-room-second_step c = (
  λ is. absurd (cc),
  λ intersects.
      let divides = intersects_at_zero c.args.ahead c.args.first_step c.args.second_step c.args.room c.if-room-second_step.true
      intersects in
      absurd (c.if-ahead-first_step-eq0.false divides),
)

pub returns-in-Some : goal.returns-in-Some
returns-in-Some c = intersects_by_least c.args.room c.requires.second_some c.in-Some.ensures.least

pub returns-in-None : goal.returns-in-None
returns-in-None c = (
  λ is. absurd (cc),
  λ intersects. absurd (intersects_by_none c.args.ahead c.args.first_step c.args.second_step c.args.room c.in-None.ensures.none intersects),
)
