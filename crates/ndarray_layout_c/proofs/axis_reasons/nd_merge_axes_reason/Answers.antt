-- The status of what is written is that of the call.
use Rattle.ndarray_layout_c.proofs.AxisReasonStatus.{status_of_merge}
use Rattle.ndarray_layout_c.proofs.axis_reasons.nd_merge_axes_reason.Goals as goal

pub returns-clause-agrees : goal.returns-clause-agrees
returns-clause-agrees c = status_of_merge c.args.shape.now c.args.take c.args.into c.axes_reason.result c.axes_reason.ensures
