-- The axes so far are marked, and no others.
use Rattle.std.proofs.Common.{length}
use Rattle.nd_dim.specs.AxesInOrder.{axis_numbers}
use Rattle.ndarray_layout.proofs.MarkedAxes.{AreMarked}
use Rattle.ndarray_layout.proofs.strided.permuting.marks_each_axis.Given as goal

abbrev pub invariant-loop-position : goal.invariant-loop-position
invariant-loop-position l = AreMarked (length l.initial.marks) l.position (axis_numbers l.axes) l.marks
