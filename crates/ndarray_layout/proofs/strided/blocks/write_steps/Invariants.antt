-- The strides from one block to the next so far are written.
use Rattle.std.proofs.Common.{◌≡◌, ℕ, ◌<◌, ◌≤◌, pos, length, get_or}
use Rattle.nd_base.proofs.Laws.Definitions.{all_signed, signed}
use Rattle.ndarray_layout.specs.private.Blocks.{block_strides}
use Rattle.ndarray_layout.proofs.strided.blocks.write_steps.Given as goal

abbrev pub invariant-loop-axis : goal.invariant-loop-axis
invariant-loop-axis l = record {
  room : length l.shape ≤ length l.new_strides;
  written : (k : ℕ) → k < l.axis
      → signed (get_or l.new_strides k 0) ≡ get_or (block_strides l.blocks l.shape l.block (all_signed l.strides)) k (pos 0);
}
