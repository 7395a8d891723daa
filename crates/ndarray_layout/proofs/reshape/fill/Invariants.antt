-- Both shapes are read so far, and the axes that are read have their strides.
use Rattle.std.proofs.Common.{◌≡◌, ◌+◌, ◌-◌, length}
use Rattle.nd_base.proofs.Laws.Definitions.{as_read}
use Rattle.ndarray_layout.specs.private.ReshapeProgress.{IsTurn, left_at, left_in}
use Rattle.ndarray_layout.proofs.reshape.fill.Given as goal

abbrev pub invariant-loop-at : goal.invariant-loop-at
invariant-loop-at l = record {
  turn : IsTurn (left_in l.both 0 0) (as_read l.both.order l.fn.out) (left_at l.both l.at) (as_read l.both.order l.out);
  room : length l.out ≡ length l.both.to.now;
}

abbrev pub decreases-loop-at : goal.decreases-loop-at
decreases-loop-at l = (length l.both.from.now + length l.both.to.now) - (l.at.from_axes + l.at.to_axes)
