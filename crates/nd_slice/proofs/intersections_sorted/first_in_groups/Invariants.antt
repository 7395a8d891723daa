-- No two of the items before a group share an index, and the group goes up to here.
use Rattle.nd_slice.proofs.FirstInGroups.{GroupsBefore}
use Rattle.nd_slice.proofs.intersections_sorted.first_in_groups.Given as goal

abbrev pub invariant-loop-to : goal.invariant-loop-to
invariant-loop-to l = GroupsBefore l.fit l.shape l.items l.from l.to
