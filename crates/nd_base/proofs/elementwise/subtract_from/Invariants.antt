-- The items below the axis are combined, the others as they were.
use Rattle.std.proofs.Common.{◌≡◌, ◌-◌}
use Rattle.nd_base.proofs.Laws.ElementwiseLoop.{combined}
use Rattle.nd_base.proofs.elementwise.subtract_from.Given as goal

abbrev pub invariant-loop-axis : goal.invariant-loop-axis
invariant-loop-axis l = l.lens ≡ combined (λ x y. x - y) l.axis l.initial.lens l.others
