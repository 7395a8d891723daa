use Rattle.std.proofs.Common.{arith}
use Rattle.ndarray_layout.proofs.Stretches.{stretch_is_view}
use Rattle.ndarray_layout.proofs.strided.stretch_left.Stretch.take_row.Goals as goal

pub returns-clause-row_is_view : goal.returns-clause-row_is_view
returns-clause-row_is_view c = stretch_is_view c.self.invariant (omega (arith, c.if-self.false, c.self.invariant.ordered))
