-- Each coordinate so far is below its length. The offset so far, and that of the axes still to come, make the whole, and it is
-- no farther than the reach of those axes allows.
use Rattle.std.proofs.Common.{◌≡◌, ℕ, ◌<◌, get_or, pos, ◌+ℤ◌, ◌≤ℤ◌}
use Rattle.nd_base.proofs.Laws.Definitions.{offset_of, all_signed, limit, reach}
use Rattle.nd_base.proofs.IndexOffsets.{offset_from}
use Rattle.nd_base.proofs.Laws.Span.{sum_from}
use Rattle.nd_base.proofs.offsets.stride_offset_checked.Given as goal

abbrev pub invariant-loop-axis : goal.invariant-loop-axis
invariant-loop-axis l = record {
  in_bounds : (k : ℕ) → k < l.axis → get_or l.index k 0 < get_or l.dim k 0;
  sum : l.offset +ℤ offset_from l.strides l.index l.axis ≡ offset_of (all_signed l.strides) l.index;
  low : pos (sum_from reach l.dim l.strides l.axis) ≤ℤ (l.offset +ℤ pos limit);
  high : (l.offset +ℤ pos (sum_from reach l.dim l.strides l.axis)) ≤ℤ pos limit;
}
