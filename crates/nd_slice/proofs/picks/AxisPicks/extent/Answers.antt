-- The last pick lies as many steps from the first as there are other picks.
use Rattle.std.proofs.Common.{rules, ◌-◌, ◌*◌, ap, ◌∙◌, arith, w64}
use Rattle.std.proofs.lemmas.Int.{to_z-of_z}
use Rattle.nd_slice.proofs.Definitions.{magnitude}
use Rattle.nd_slice.proofs.Laws.Between.{some_between}
use Rattle.nd_slice.proofs.Ends.{IsExtent, extent_of}
use Rattle.nd_slice.proofs.picks.AxisPicks.extent.Goals as goal
use Rattle.nd_slice.proofs.picks.AxisPicks.extent.Goals.{After-unsigned_abs}

far : (c : After-unsigned_abs)
    → IsExtent c.args.self.step c.args.self.start c.args.self.end ((c.count.result - 1) * c.unsigned_abs.result)
far c =
    extent_of c.args.self.step c.args.self.start c.args.self.end c.args.self.moves c.requires
    (ap (λ k. (c.count.result - 1) * k)
    (c.unsigned_abs.ensures.value ∙ ap magnitude (to_z-of_z w64 c.args.self.step (search rules)))
    ∙ ap (λ n. (n - 1) * magnitude c.args.self.step) c.count.ensures)

pub overflow_sub-result : goal.overflow_sub-result
overflow_sub-result c =
    omega (arith, some_between c.args.self.step c.args.self.start c.args.self.end c.args.self.moves c.requires, c.count.ensures)

pub overflow_mul-result : goal.overflow_mul-result
overflow_mul-result c = omega (arith, (far ((goal.at.overflow_mul-result c).After-unsigned_abs)).within)

pub returns : goal.returns
returns c =
    let extent = far ((goal.at.returns c).After-unsigned_abs) in
    record { extent = extent.is; within = extent.within }
