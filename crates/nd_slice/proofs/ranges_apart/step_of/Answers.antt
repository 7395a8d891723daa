-- The element picks what lies between the bounds of its range, a step apart.
use Rattle.std.proofs.Common.{ℕ, ℤ, ap, subst}
use Rattle.nd_slice.proofs.Definitions.{between, elem_picks}
use Rattle.nd_slice.proofs.Laws.ElemRange.{picks_of_range}
use Rattle.nd_slice.proofs.Remainders.{LeaveOne}
use Rattle.nd_slice.proofs.ranges_apart.step_of.Goals as goal

pub returns-in-Ok : goal.returns-in-Ok
returns-in-Ok c = λ by which.
    let range = c.in-Ok.ensures.range in
    let p = c.in-Ok.picks in
    let all : LeaveOne by p.start (between p.step p.start p.end) = c.distance.ensures by which in
    subst (λ start. LeaveOne by start (elem_picks c.args.fit c.args.len c.args.elem)) (ap (λ (r : ℕ × ℕ × ℤ). r.0) range)
    (subst (LeaveOne by p.start) (picks_of_range c.args.fit c.args.len c.args.elem range) all)
