-- The product so far isn't 0 and is within the limit, and times that of the axes still to come it is that of all.
use Rattle.std.proofs.Common.{◌≡◌, ◌<◌, ◌≤◌, ◌*◌, drop}
use Rattle.nd_base.specs.Size.{limit, nonzero_size}
use Rattle.ndarray_layout.specs.private.Blocks.{block_counts}
use Rattle.ndarray_layout.proofs.strided.blocks.check_total.Given as goal

abbrev pub invariant-loop-axis : goal.invariant-loop-axis
invariant-loop-axis l = record {
  some : 0 < l.total;
  fits : l.total ≤ limit;
  product : l.total * nonzero_size (drop l.axis (block_counts l.blocks l.shape l.block))
      ≡ nonzero_size (block_counts l.blocks l.shape l.block) * l.size;
}
