-- The counts stand first, and then the lengths of a block.
use Rattle.std.proofs.Common.{◌++◌, length, ap, ◌∙◌}
use Rattle.ndarray_layout.specs.private.Blocks.{block_counts}
use Rattle.ndarray_layout.proofs.BlocksWritten.{two_parts}
use Rattle.ndarray_layout.proofs.strided.blocks.write_lengths.Goals as goal

pub returns : goal.returns
returns c =
    let new = c.write_counts.new.new_shape in
    let back = c.copy_from_slice.new.self in
    let counts = block_counts c.args.blocks c.args.shape.now c.args.block.now in
    two_parts (length c.args.shape.now) new back
    ∙ ap (λ xs. xs ++ back) c.write_counts.ensures
    ∙ ap (λ ys. counts ++ ys) c.copy_from_slice.ensures.after
