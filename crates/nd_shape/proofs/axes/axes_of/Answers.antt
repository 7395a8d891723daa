use Rattle.nd_shape.proofs.AxesIteration.{axes_in_order, axes_in_reverse}
use Rattle.nd_shape.proofs.axes.axes_of.Goals as goal

pub returns-clause-in_order : goal.returns-clause-in_order
returns-clause-in_order g c = axes_in_order

pub returns-clause-in_reverse : goal.returns-clause-in_reverse
returns-clause-in_reverse g c = axes_in_reverse
