-- More than one pick leave one remainder by their step.
use Rattle.std.proofs.Common.{rules, ◌≡◌, ◌<◌, ap, arith, inl, inr, sym, subst, w64, ◌∙◌}
use Rattle.std.proofs.lemmas.Bool.{cases_lt}
use Rattle.std.proofs.lemmas.Int.{to_z-of_z}
use Rattle.nd_slice.proofs.Definitions.{between, magnitude}
use Rattle.nd_slice.proofs.Laws.Between.{none_between}
use Rattle.nd_slice.proofs.Remainders.{LeaveOne, step_remainder}
use Rattle.nd_slice.proofs.picks.AxisPicks.distance.Goals as goal

pub returns-else-count-le1 : goal.returns-else-count-le1
returns-else-count-le1 c = λ by which.
    let self = c.args.self in
    let picks = between self.step self.start self.end in
    let step : c.unsigned_abs.result ≡ magnitude self.step =
    c.unsigned_abs.ensures.value ∙ ap magnitude (to_z-of_z w64 self.step (search rules)) in
    let moves : 0 < magnitude self.step = self.moves in
    elim which [
      | inl none ↦ absurd (omega (arith, none, step, moves))
      | inr is ↦ elim (cases_lt self.start self.end) [
        | inl order ↦ subst (λ n. LeaveOne n self.start picks) (sym step ∙ is)
            (step_remainder self.step self.start self.end self.start moves order)
        | inr low ↦ absurd (omega (arith, none_between self.step self.start self.end moves low, c.count.ensures, c.if-count-le1.false))
      ]
    ]
