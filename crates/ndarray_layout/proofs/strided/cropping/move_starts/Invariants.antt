-- The starts of the axes so far have moved.
use Rattle.std.proofs.Common.{◌≡◌, cond}
use Rattle.std.specs.Prelude.{nat_lt}
use Rattle.nd_base.proofs.Laws.ElementwiseLoop.{combined}
use Rattle.ndarray_layout.proofs.strided.cropping.move_starts.Given as goal

abbrev pub invariant-loop-axis : goal.invariant-loop-axis
invariant-loop-axis l = l.starts ≡ combined (λ start end. cond (nat_lt start end) start 0) l.axis l.initial.starts l.ends
