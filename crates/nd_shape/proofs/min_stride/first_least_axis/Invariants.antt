-- The axis is the one sought among those so far.
use Rattle.nd_base.specs.Signed.{all_signed}
use Rattle.nd_shape.proofs.FirstLeast.{IsFirstLeastFrom}
use Rattle.nd_shape.proofs.min_stride.first_least_axis.Given as goal

abbrev pub invariant-loop-axis : goal.invariant-loop-axis
invariant-loop-axis l = IsFirstLeastFrom l.lens (all_signed l.strides) l.axis l.least
