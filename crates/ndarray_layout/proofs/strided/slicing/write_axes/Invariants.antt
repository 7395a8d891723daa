-- What is written so far, with the slice of what is left, is the whole slice.
use Rattle.ndarray_layout.proofs.SliceSteps.{SlicedTo}
use Rattle.ndarray_layout.proofs.strided.slicing.write_axes.Given as goal

abbrev pub invariant-loop-elem : goal.invariant-loop-elem
invariant-loop-elem l = SlicedTo l.fit l.elems l.shape l.strides l.elem-index l.old_axis l.new_axis l.new_shape l.new_strides l.offset
