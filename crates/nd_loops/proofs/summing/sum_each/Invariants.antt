-- So far, with the items of the rows that are left, it is the sum of all.
use Rattle.std.proofs.Common.{◌≡◌, ◌+◌, ◌<◌, ◌^◌}
use Rattle.std.specs.List.{All, sum_by}
use Rattle.std.specs.Option.{option_map_or}
use Rattle.nd_access.specs.LentRow.{rows_items}
use Rattle.nd_loops.proofs.summing.sum_each.Given as goal

abbrev pub invariant-loop-row : goal.invariant-loop-row
invariant-loop-row g l = record {
  few : 0 < g.row.FEW → All (λ row. g.row.FEW ≡ row.row.len) l.row-iterator;
  sum : l.total + sum_by (λ item. option_map_or g.T.Unsigned.number item 0) (rows_items l.row-iterator)
      ≡ sum_by (λ item. option_map_or g.T.Unsigned.number item 0) (rows_items l.fn.rows);
  fits : l.total < 2 ^ 64;
}
