-- The strides from one block to the next stand first, and then those in a block.
use Rattle.std.proofs.Common.{◌++◌, length, take, sym, ap, ◌∙◌}
use Rattle.std.proofs.lemmas.List.{map-append, take-map}
use Rattle.nd_base.proofs.Laws.Definitions.{all_signed, signed}
use Rattle.ndarray_layout.specs.private.Blocks.{block_strides}
use Rattle.ndarray_layout.proofs.BlocksWritten.{two_parts}
use Rattle.ndarray_layout.proofs.strided.blocks.write_strides.Goals as goal

pub returns : goal.returns
returns c =
    let n = length c.args.shape.now in
    let new = c.write_steps.new.new_strides in
    let back = c.copy_from_slice.new.self in
    let along = block_strides c.args.blocks c.args.shape.now c.args.block.now (all_signed c.args.strides.now) in
    ap all_signed (two_parts n new back)
    ∙ map-append signed (take n new) back
    ∙ ap (λ xs. xs ++ all_signed back) (sym (take-map signed n new) ∙ c.write_steps.ensures)
    ∙ ap (λ ys. along ++ all_signed ys) c.copy_from_slice.ensures.after
