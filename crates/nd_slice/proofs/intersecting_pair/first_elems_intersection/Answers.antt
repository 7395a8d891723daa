-- Slices that lie in rows share no index, from whichever end they are read.
use Rattle.nd_slice.proofs.intersecting_pair.first_elems_intersection.Goals as goal
use Rattle.nd_slice.proofs.intersecting_pair.first_elems_intersection.Goals.{then-lie_in_rows-via-then-lie_in_rows}
use Rattle.nd_slice.proofs.intersecting_pair.first_elems_intersection.Goals.{then-lie_in_rows-via-else-lie_in_rows+then-lie_in_rows-2}

pub returns-then-lie_in_rows : goal.returns-then-lie_in_rows
returns-then-lie_in_rows g c = elim c.then-lie_in_rows.branch [
  | then-lie_in_rows-via-then-lie_in_rows w ↦ c.lie_in_rows.ensures w.if-lie_in_rows.true
  | then-lie_in_rows-via-else-lie_in_rows+then-lie_in_rows-2 w ↦ w.lie_in_rows-else-lie_in_rows.ensures w.if-lie_in_rows-2.true
]
