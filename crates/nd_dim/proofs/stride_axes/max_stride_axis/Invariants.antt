-- The axis is the one sought among those so far.
use Rattle.std.proofs.Common.{◌≤◌}
use Rattle.nd_base.specs.Signed.{all_signed}
use Rattle.nd_dim.proofs.StrideAxesLoop.{LeadsBelow}
use Rattle.nd_dim.proofs.stride_axes.max_stride_axis.Given as goal

abbrev pub invariant-loop-axis : goal.invariant-loop-axis
invariant-loop-axis l = LeadsBelow (λ m n. n ≤ m) 0 l.lens (all_signed l.strides) l.axis l.greatest
