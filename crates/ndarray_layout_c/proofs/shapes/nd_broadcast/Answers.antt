-- What is written is a view of the layout, wherever it starts.
use Rattle.std.proofs.Common.{ap, ◌∙◌}
use Rattle.ndarray_layout.specs.Signed.{all_signed}
use Rattle.ndarray_layout_c.proofs.Kept.{broadcast_kept}
use Rattle.ndarray_layout_c.proofs.shapes.nd_broadcast.Goals as goal

pub returns-in-Ok-clause-kept : goal.returns-in-Ok-clause-kept
returns-in-Ok-clause-kept c returned =
    let list = c.copy_from_slice.ensures.after ∙ c.slice.ensures.list in
    broadcast_kept c.args.strides.now c.copy_from_slice.new.self c.args.target.now c.in-Ok.ensures.fits
    (ap all_signed list ∙ c.strides.ensures.list ∙ c.in-Ok.ensures.strides)
