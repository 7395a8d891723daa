-- The ends of the axes so far are differences.
use Rattle.std.proofs.Common.{◌≡◌, ◌-◌}
use Rattle.nd_base.proofs.Laws.ElementwiseLoop.{combined}
use Rattle.ndarray_layout.proofs.strided.cropping.subtract_starts.Given as goal

abbrev pub invariant-loop-axis : goal.invariant-loop-axis
invariant-loop-axis l = l.ends ≡ combined (λ x y. x - y) l.axis l.initial.ends l.starts
