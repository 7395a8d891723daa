-- The offset so far, and that of the axes still to come, make the whole; it is no farther than they allow.
use Rattle.std.proofs.Common.{◌≡◌, pos, ◌+ℤ◌, ◌≤ℤ◌}
use Rattle.nd_base.proofs.Laws.Definitions.{offset_of, all_signed, limit}
use Rattle.nd_base.proofs.IndexOffsets.{coordinate_offset, offset_from}
use Rattle.nd_base.proofs.Laws.Span.{sum_from}
use Rattle.nd_base.proofs.offsets.index_offset.Given as goal

abbrev pub invariant-loop-axis : goal.invariant-loop-axis
invariant-loop-axis l = record {
  sum : l.offset +ℤ offset_from l.strides l.index l.axis ≡ offset_of (all_signed l.strides) l.index;
  low : pos (sum_from coordinate_offset l.index l.strides l.axis) ≤ℤ (l.offset +ℤ pos limit);
  high : (l.offset +ℤ pos (sum_from coordinate_offset l.index l.strides l.axis)) ≤ℤ pos limit;
}
