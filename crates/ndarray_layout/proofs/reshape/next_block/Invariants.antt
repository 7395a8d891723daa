-- A part of the block is read.
use Rattle.std.proofs.Common.{◌+◌, ◌-◌, ◌<◌, ◌≤◌, length}
use Rattle.nd_base.specs.Signed.{signed}
use Rattle.ndarray_layout.specs.private.ReshapeProgress.{left_at}
use Rattle.ndarray_layout.proofs.matching.Merged.{IsJoined}
use Rattle.ndarray_layout.proofs.reshape.next_block.Given as goal

abbrev pub invariant-loop-len : goal.invariant-loop-len
invariant-loop-len l = record {
  from_ahead : l.fn.at.from_axes < l.end.from_axes;
  to_ahead : l.fn.at.to_axes < l.end.to_axes;
  to_in : l.end.to_axes ≤ length l.both.to.now;
  joined : IsJoined (left_at l.both l.fn.at) l.len (signed l.stride) l.new_len (left_at l.both l.end);
}

abbrev pub decreases-loop-len : goal.decreases-loop-len
decreases-loop-len l = (length l.both.from.now - l.end.from_axes) + (length l.both.to.now - l.end.to_axes)
