use Rattle.std.proofs.Common.{arith}
use Rattle.nd_shape.proofs.AxesIteration.{length-axes_left}
use Rattle.nd_shape.proofs.axes_iter.AxesExactSizeIterator.len.Goals as goal

pub returns-clause-value : goal.returns-clause-value
returns-clause-value c = omega (arith, length-axes_left c.args.self.now)
