-- So far it is the sum of the items up to here, each of which is below 2^64.
use Rattle.std.proofs.Common.{◌≡◌, ◌*◌, ◌≤◌, ◌^◌, take}
use Rattle.std.specs.List.{sum_by}
use Rattle.std.specs.Option.{option_map_or}
use Rattle.nd_access.specs.LentRow.{row_items}
use Rattle.nd_loops.proofs.summing.sum_places.Given as goal

abbrev pub invariant-loop-coordinate : goal.invariant-loop-coordinate
invariant-loop-coordinate g l = record {
  sum : l.total ≡ sum_by (λ item. option_map_or g.T.Unsigned.number item 0) (take l.coordinate (row_items l.fn.row));
  fits : l.total ≤ 2 ^ 64 * l.coordinate;
}
