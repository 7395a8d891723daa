-- The axes so far have one coordinate.
use Rattle.std.proofs.Common.{◌-◌, ◌≤◌, length}
use Rattle.ndarray_layout.specs.private.ReshapeProgress.{GoesOn, left_at, left_in}
use Rattle.ndarray_layout.proofs.reshape.pass_ones.Given as goal

abbrev pub invariant-loop-from_axes : goal.invariant-loop-from_axes
invariant-loop-from_axes l = record {
  ahead : l.at.from_axes ≤ l.from_axes;
  goes_on : GoesOn (left_at l.both l.at) (λ ss. ss) (left_in l.both l.from_axes l.at.to_axes);
}

abbrev pub decreases-loop-from_axes : goal.decreases-loop-from_axes
decreases-loop-from_axes l = length l.both.from.now - l.from_axes
