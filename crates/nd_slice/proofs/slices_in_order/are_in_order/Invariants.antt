-- The slices so far begin in their order, and none after the last of them.
use Rattle.std.proofs.Common.{map}
use Rattle.nd_slice.proofs.Slices.{SoFar}
use Rattle.nd_slice.proofs.slices_in_order.are_in_order.Given as goal

abbrev pub invariant-loop-turn : goal.invariant-loop-turn
invariant-loop-turn g l = SoFar l.fit l.shape (map g.S.SliceElems.list l.slices) g.R.Direction.backwards l.axis l.turn l.last
