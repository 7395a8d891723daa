-- The status of what is written is that of the call.
use Rattle.ndarray_layout_c.proofs.BroadcastReasonStatus.{status_of_co_broadcast}
use Rattle.ndarray_layout_c.proofs.broadcast_reasons.nd_co_broadcast_reason.Goals as goal

pub returns-clause-agrees : goal.returns-clause-agrees
returns-clause-agrees c =
    status_of_co_broadcast c.args.first.now c.args.second.now c.co_broadcast_reason.result c.co_broadcast_reason.ensures
