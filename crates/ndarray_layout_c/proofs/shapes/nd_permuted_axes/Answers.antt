-- What is written descends from the layout, wherever it starts.
use Rattle.std.proofs.Common.{rules, ap, ◌∙◌}
use Rattle.ndarray_layout.specs.View.{View}
use Rattle.ndarray_layout_c.proofs.Kept.{permuted_kept, returned_ok}
use Rattle.ndarray_layout_c.proofs.shapes.nd_permuted_axes.Goals as goal

pub returns-in-Ok-clause-kept : goal.returns-in-Ok-clause-kept
returns-in-Ok-clause-kept c returned =
    let is_ok = returned_ok (search rules) returned in
    let made = c.in-Ok.ensures.permuted in
    permuted_kept c.args.strides.now c.write_axes.new.strides c.args.axes.now c.in-Ok.ensures.fits
    (c.write_axes.ensures.shape is_ok ∙ ap View.shape made)
    (c.write_axes.ensures.strides is_ok ∙ ap View.strides made)
