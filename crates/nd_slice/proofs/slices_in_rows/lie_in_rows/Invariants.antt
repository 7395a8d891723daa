-- The slices so far lie in rows.
use Rattle.std.proofs.Common.{map}
use Rattle.nd_slice.proofs.SlicesInRows.{InRows}
use Rattle.nd_slice.proofs.slices_in_rows.lie_in_rows.Given as goal

abbrev pub invariant-loop-turn : goal.invariant-loop-turn
invariant-loop-turn g l =
    InRows l.fit l.shape (map g.S.SliceElems.list l.slices) g.R.Direction.backwards l.turn l.above l.below l.left
