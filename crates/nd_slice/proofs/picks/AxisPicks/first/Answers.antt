use Rattle.std.proofs.Common.{arith}
use Rattle.std.proofs.lemmas.Int.{ints}
use Rattle.nd_slice.proofs.Ends.{first_back}
use Rattle.nd_slice.proofs.picks.AxisPicks.first.Goals as goal

pub returns-then-self-lt0 : goal.returns-then-self-lt0
returns-then-self-lt0 c =
    first_back c.args.self.start c.args.self.end c.requires c.args.self.step (omega (arith, ints, c.if-self-lt0.true)) c.args.self.moves
