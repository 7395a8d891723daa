-- The status of what is written is that of the call.
use Rattle.ndarray_layout_c.proofs.BroadcastReasonStatus.{status_of_broadcast}
use Rattle.ndarray_layout_c.proofs.broadcast_reasons.nd_broadcast_reason.Goals as goal

pub returns-clause-agrees : goal.returns-clause-agrees
returns-clause-agrees c = status_of_broadcast c.args.shape.now c.args.target.now c.broadcast_reason.result c.broadcast_reason.ensures
