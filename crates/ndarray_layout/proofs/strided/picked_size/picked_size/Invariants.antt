-- The product so far, times the size of what the elements to come leave, is the size of all.
use Rattle.ndarray_layout.proofs.PickedSize.{PickedSoFar}
use Rattle.ndarray_layout.proofs.strided.picked_size.picked_size.Given as goal

abbrev pub invariant-loop-len : goal.invariant-loop-len
invariant-loop-len l = PickedSoFar l.fit l.elems l.shape l.len-iterator l.size
