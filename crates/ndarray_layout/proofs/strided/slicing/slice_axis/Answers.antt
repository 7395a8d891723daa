-- What is left of the axis is what was written.
use Rattle.std.proofs.Common.{rules}
use Rattle.ndarray_layout.proofs.strided.slicing.slice_axis.Goals as goal

pub returns-clause-stride : goal.returns-clause-stride
returns-clause-stride c = search rules
