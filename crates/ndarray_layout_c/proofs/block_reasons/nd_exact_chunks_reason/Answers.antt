-- The status of what is written is that of the call.
use Rattle.ndarray_layout_c.proofs.BlockReasonStatus.{status_of_chunks}
use Rattle.ndarray_layout_c.proofs.block_reasons.nd_exact_chunks_reason.Goals as goal

pub returns-clause-agrees : goal.returns-clause-agrees
returns-clause-agrees c = status_of_chunks c.args.shape.now c.args.chunk.now c.blocks_reason.result c.blocks_reason.ensures
