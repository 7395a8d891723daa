-- The status of what is written is that of the call.
use Rattle.ndarray_layout_c.proofs.BlockReasonStatus.{status_of_windows}
use Rattle.ndarray_layout_c.proofs.block_reasons.nd_windows_reason.Goals as goal

pub returns-clause-agrees : goal.returns-clause-agrees
returns-clause-agrees c = status_of_windows c.args.shape.now c.args.window.now c.blocks_reason.result c.blocks_reason.ensures
