-- The strides of the axes so far are written.
use Rattle.std.proofs.Common.{◌≡◌, length}
use Rattle.nd_base.proofs.Laws.Definitions.{as_read}
use Rattle.ndarray_layout.specs.private.ReshapeProgress.{IsTurn, left_at, left_in}
use Rattle.ndarray_layout.proofs.reshape.write_ones.Given as goal

abbrev pub invariant-loop-axis : goal.invariant-loop-axis
invariant-loop-axis l = record {
  turn : IsTurn (left_at l.both l.fn.at) (as_read l.both.order l.fn.out) (left_in l.both l.fn.at.from_axes l.axis)
      (as_read l.both.order l.out);
  room : length l.out ≡ length l.both.to.now;
}
