-- The least stride so far, and the last axis of those that have it.
use Rattle.std.proofs.Common.{◌≡◌, ◌<◌, ◌≤◌, ℕ, length}
use Rattle.nd_base.specs.Signed.{all_signed}
use Rattle.nd_dim.specs.StrideOrder.{magnitude_at}
use Rattle.nd_dim.proofs.stride_axes.least_of_all.Given as goal

abbrev pub invariant-loop-axis : goal.invariant-loop-axis
invariant-loop-axis l = record {
  in_bounds : l.least < length l.strides;
  shortest : l.shortest ≡ magnitude_at (all_signed l.strides) l.least;
  leading : (k : ℕ) → k < l.axis → l.shortest ≤ magnitude_at (all_signed l.strides) k;
  of_equals : (k : ℕ) → k < l.axis → l.shortest ≡ magnitude_at (all_signed l.strides) k → k ≤ l.least;
}
