-- The status of what is written is that of the call.
use Rattle.ndarray_layout_c.proofs.AxisReasonStatus.{status_of_split}
use Rattle.ndarray_layout_c.proofs.axis_reasons.nd_split_at_reason.Goals as goal

pub returns-clause-agrees : goal.returns-clause-agrees
returns-clause-agrees c =
    status_of_split c.args.shape.now c.args.axis c.args.index c.split_reason.result c.split_reason.ensures
