-- The sum of the strides so far, and the reaches of the axes still to come fit beside it.
use Rattle.std.proofs.Common.{◌≡◌, fold, take, pos, ◌+ℤ◌, ◌≤ℤ◌}
use Rattle.nd_base.proofs.Laws.Definitions.{all_signed, limit, reach}
use Rattle.nd_base.proofs.Laws.Span.{sum_from}
use Rattle.ndarray_layout.proofs.strided.diagonal.diagonal_stride.Given as goal

abbrev pub invariant-loop-stride : goal.invariant-loop-stride
invariant-loop-stride l = record {
  sum : l.sum ≡ fold ◌+ℤ◌ (pos 0) (take l.stride-index (all_signed l.strides));
  low : pos (sum_from reach l.shape l.strides l.stride-index) ≤ℤ (l.sum +ℤ pos limit);
  high : (l.sum +ℤ pos (sum_from reach l.shape l.strides l.stride-index)) ≤ℤ pos limit;
}
