-- The items of the rows that are left are equal where all are.
use Rattle.std.proofs.Common.{◌≡◌, ◌<◌}
use Rattle.std.specs.Cmp.Lexicographic.{pointwise}
use Rattle.std.specs.List.{All, AllZip}
use Rattle.nd_loops.specs.Equal.{both_equal}
use Rattle.nd_access.specs.LentRow.{rows_items}
use Rattle.nd_loops.proofs.comparing.have_equal_each.Given as goal

abbrev pub invariant-loop-row : goal.invariant-loop-row
invariant-loop-row g l = record {
  few : 0 < g.row.FEW → All (λ row. g.row.FEW ≡ row.row.len) l.row-iterator;
  count : AllZip (λ row other. row.row.len ≡ other.row.len) l.row-iterator l.others;
  same : pointwise (both_equal g.T.EqualTo.equal_to) (rows_items l.row-iterator) (rows_items l.others)
      ≡ pointwise (both_equal g.T.EqualTo.equal_to) (rows_items l.fn.rows) (rows_items l.fn.others);
}
