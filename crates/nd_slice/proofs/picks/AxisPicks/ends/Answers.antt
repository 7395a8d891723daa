use Rattle.std.proofs.Common.{arith}
use Rattle.std.proofs.lemmas.Int.{ints}
use Rattle.nd_slice.proofs.Laws.Between.{some_between}
use Rattle.nd_slice.proofs.Ends.{IsExtent, ends_back, ends_on}
use Rattle.nd_slice.proofs.picks.AxisPicks.ends.Goals as goal
use Rattle.nd_slice.proofs.picks.AxisPicks.ends.Goals.{After-extent-extent}

far : (c : After-extent-extent) → IsExtent c.args.self.step c.args.self.start c.args.self.end c.extent-extent.result
far c = record {
  some = some_between c.args.self.step c.args.self.start c.args.self.end c.args.self.moves c.requires;
  is = c.extent-extent.ensures.extent;
  within = c.extent-extent.ensures.within;
}

pub returns-then-self-lt0 : goal.returns-then-self-lt0
returns-then-self-lt0 c =
    let at = (goal.at.returns-then-self-lt0 c).After-extent-extent in
    let ends = ends_back c.args.self.start c.args.self.end c.requires c.args.self.step (omega (arith, ints, c.if-self-lt0.true))
    (far at) in
    let within = (far at).within in
    record { least = ends.0; greatest = ends.1; between = ends.2; below = (omega (arith, within), omega (arith, within)) }

pub returns-else-self-lt0 : goal.returns-else-self-lt0
returns-else-self-lt0 c =
    let at = (goal.at.returns-else-self-lt0 c).After-extent-extent in
    let ends = ends_on c.args.self.start c.args.self.end c.requires c.args.self.step (omega (arith, ints, c.if-self-lt0.false))
    c.args.self.moves (far at) in
    let within = (far at).within in
    record { least = ends.0; greatest = ends.1; between = ends.2; below = (omega (arith, within), omega (arith, within)) }
