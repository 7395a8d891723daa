-- The axis is the one sought among those so far.
use Rattle.std.proofs.Common.{◌≤◌, ◌-◌, length}
use Rattle.nd_base.specs.Signed.{all_signed}
use Rattle.nd_dim.proofs.StrideAxesLoop.{LeadsBelow}
use Rattle.nd_dim.proofs.stride_axes.least_of_long.Given as goal

abbrev pub invariant-loop-axis : goal.invariant-loop-axis
invariant-loop-axis l = LeadsBelow (λ m n. m ≤ n) (length l.lens - 1) l.lens (all_signed l.strides) l.axis l.least
