-- The status of what is written is that of the call.
use Rattle.ndarray_layout_c.proofs.PermuteReasonStatus.{status_of_permute}
use Rattle.ndarray_layout_c.proofs.permute_reasons.nd_permuted_axes_reason.Goals as goal

pub returns-clause-agrees : goal.returns-clause-agrees
returns-clause-agrees c = status_of_permute c.args.shape.now c.args.axes.now c.permute_reason.result c.permute_reason.ensures
