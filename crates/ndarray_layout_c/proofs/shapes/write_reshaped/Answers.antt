-- The strides that are written are those of the view that the reshape leaves.
use Rattle.std.proofs.Common.{ap, ◌∙◌}
use Rattle.ndarray_layout.specs.ReshapedView.{reshaped_strides}
use Rattle.ndarray_layout.specs.Signed.{all_signed}
use Rattle.ndarray_layout_c.proofs.Counts.{strides_of_view}
use Rattle.ndarray_layout_c.proofs.shapes.write_reshaped.Goals as goal

pub returns-in-Ok-reshape-clause-strides : goal.returns-in-Ok-reshape-clause-strides
returns-in-Ok-reshape-clause-strides c written =
    ap all_signed (c.copy_from_slice.ensures.after ∙ c.slice.ensures.list)
    ∙ c.strides.ensures.list
    ∙ strides_of_view _ _ c.in-Ok-reshape.ensures.reshaped
    ∙ ap (λ shape. reshaped_strides c.args.order shape c.args.view.now) c.in-Ok.ensures.list
