-- The counts so far are written.
use Rattle.std.proofs.Common.{◌≡◌, ℕ, ◌<◌, ◌≤◌, length, get_or}
use Rattle.ndarray_layout.specs.private.Blocks.{block_counts}
use Rattle.ndarray_layout.proofs.strided.blocks.write_counts.Given as goal

abbrev pub invariant-loop-axis : goal.invariant-loop-axis
invariant-loop-axis l = record {
  room : length l.shape ≤ length l.new_shape;
  written : (k : ℕ) → k < l.axis → get_or l.new_shape k 0 ≡ get_or (block_counts l.blocks l.shape l.block) k 0;
}
