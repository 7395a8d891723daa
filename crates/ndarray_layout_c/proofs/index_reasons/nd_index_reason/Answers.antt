-- The status of what is written is that of the call.
use Rattle.ndarray_layout_c.proofs.IndexReasonStatus.{status_of_index}
use Rattle.ndarray_layout_c.proofs.index_reasons.nd_index_reason.Goals as goal

pub returns-clause-agrees : goal.returns-clause-agrees
returns-clause-agrees c = status_of_index c.args.shape.now c.args.index.now c.index_reason.result c.index_reason.ensures
