-- The axis, which is there, stands at the position among the others.
use Rattle.std.proofs.Common.{◌≡◌, ◌<◌, length}
use Rattle.ndarray_layout.specs.PermutedView.{permuted_of}
use Rattle.nd_lent.proofs.AxisLast.{axes_moved}
use Rattle.nd_lent.proofs.axis_last.with_axis_last.Given as goal

abbrev pub invariant-loop-position : goal.invariant-loop-position
invariant-loop-position g l = record {
  there : l.fn.axis.0 < length l.fn.view.shape;
  moved : l.view ≡ permuted_of (axes_moved (length l.fn.view.shape) l.fn.axis.0 l.position) l.fn.view;
}
