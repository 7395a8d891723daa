use Rattle.std.proofs.Common.{rules, arith}
use Rattle.nd_shape.proofs.AxesIteration.{length-axes_left}
use Rattle.nd_shape.proofs.axes_iter.AxesIterator.size_hint.Goals as goal

pub returns-clause-lower : goal.returns-clause-lower
returns-clause-lower c = λ _. omega (arith, length-axes_left c.args.self.now)

pub returns-clause-upper : goal.returns-clause-upper
returns-clause-upper c = (tt, omega (arith, length-axes_left c.args.self.now))

pub returns-clause-exact : goal.returns-clause-exact
returns-clause-exact c =
    let left = length-axes_left c.args.self.now in
    search rules
