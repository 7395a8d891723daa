-- The strides of the axes that are read last are written.
use Rattle.std.proofs.Common.{◌≡◌, ◌-◌, ◌<◌, ◌≤◌, length}
use Rattle.nd_base.proofs.Laws.Definitions.{as_read, signed}
use Rattle.ndarray_layout.specs.private.ReshapeProgress.{block_strides, segment}
use Rattle.ndarray_layout.proofs.matching.Blocks.{IsPartOfBlock}
use Rattle.ndarray_layout.proofs.reshape.write_block.Given as goal

abbrev pub invariant-loop-axis : goal.invariant-loop-axis
invariant-loop-axis l = record {
  low : l.start < l.axis;
  high : l.axis ≤ l.end;
  room : length l.out ≡ length l.both.to.now;
  part : IsPartOfBlock (length l.both.to.now - l.end)
      (block_strides (segment l.start l.end (as_read l.both.order l.both.to.now)) (signed l.fn.stride))
      (as_read l.both.order l.fn.out) (segment l.start l.axis (as_read l.both.order l.both.to.now)) l.stride (l.end - l.axis)
      (as_read l.both.order l.out);
}
