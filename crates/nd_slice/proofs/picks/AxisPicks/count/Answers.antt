use Rattle.std.proofs.Common.{rules, ◌≡◌, ◌-◌, sym, ap, ◌∙◌, w64}
use Rattle.std.proofs.lemmas.Int.{to_z-of_z}
use Rattle.std.specs.Int.{div_ceil}
use Rattle.nd_slice.proofs.Definitions.{magnitude}
use Rattle.nd_slice.proofs.Laws.Between.{length-between}
use Rattle.nd_slice.proofs.Laws.UnitStep.{length-between_unit}
use Rattle.nd_slice.proofs.picks.AxisPicks.count.Goals as goal
use Rattle.nd_slice.proofs.picks.AxisPicks.count.Goals.{After-unsigned_abs-step}

distance : (c : After-unsigned_abs-step) → c.unsigned_abs-step.result ≡ magnitude c.args.self.step
distance c = c.unsigned_abs-step.ensures.value ∙ ap magnitude (to_z-of_z w64 c.args.self.step (search rules))

pub returns-then-step-eq1 : goal.returns-then-step-eq1
returns-then-step-eq1 c =
    let unit : magnitude c.args.self.step ≡ 1 = sym (distance ((goal.at.returns-then-step-eq1 c).After-unsigned_abs-step))
    ∙ c.if-step-eq1.true in
    sym (length-between_unit c.args.self.step c.args.self.start c.args.self.end unit)

pub returns-else-step-eq1 : goal.returns-else-step-eq1
returns-else-step-eq1 c =
    c.div_ceil.ensures
    ∙ ap (λ k. div_ceil (c.args.self.end - c.args.self.start) k) (distance ((goal.at.returns-else-step-eq1 c).After-unsigned_abs-step))
    ∙ sym (length-between c.args.self.step c.args.self.start c.args.self.end c.args.self.moves)
