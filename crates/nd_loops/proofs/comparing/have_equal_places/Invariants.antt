-- The items that are left are equal where all are.
use Rattle.std.proofs.Common.{◌≡◌, drop}
use Rattle.std.specs.Cmp.Lexicographic.{pointwise}
use Rattle.nd_loops.specs.Equal.{both_equal}
use Rattle.nd_access.specs.LentRow.{row_items}
use Rattle.nd_loops.proofs.comparing.have_equal_places.Given as goal

abbrev pub invariant-loop-coordinate : goal.invariant-loop-coordinate
invariant-loop-coordinate g l = record {
  same : pointwise (both_equal g.T.EqualTo.equal_to) (drop l.coordinate (row_items l.fn.one)) (drop l.coordinate (row_items l.fn.other))
      ≡ pointwise (both_equal g.T.EqualTo.equal_to) (row_items l.fn.one) (row_items l.fn.other);
}
