-- Both halves make up the sum of the items so far, each at most 2 ^ 32 for each item.
use Rattle.std.proofs.Common.{◌≡◌, ◌+◌, ◌*◌, ◌≤◌, ◌^◌, take}
use Rattle.std.specs.List.{sum_by}
use Rattle.std.specs.Option.{option_map_or}
use Rattle.nd_access.specs.LentRow.{row_items}
use Rattle.nd_loops.proofs.summing.sum_few_places.Given as goal

abbrev pub invariant-loop-coordinate : goal.invariant-loop-coordinate
invariant-loop-coordinate g l = record {
  sum : l.low + 2 ^ 32 * l.high
      ≡ sum_by (λ item. option_map_or g.T.Unsigned.number item 0) (take l.coordinate (row_items l.fn.row));
  low : l.low ≤ 2 ^ 32 * l.coordinate;
  high : l.high ≤ 2 ^ 32 * l.coordinate;
}
