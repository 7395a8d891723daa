-- The items at the coordinates below this one are copied, for all of which there is room.
use Rattle.std.proofs.Common.{◌≡◌, ◌+◌, ◌-◌, ◌≤◌, ◌++◌, Some, map, take, vec_capacity, vec_len}
use Rattle.nd_access.specs.LentRow.{row_items}
use Rattle.nd_items.proofs.copying.copy_apart.Given as goal

abbrev pub invariant-loop-made : goal.invariant-loop-made
invariant-loop-made g l = record {
  are : map Some l.made.items ≡ map Some l.fn.list.items ++ take l.coordinate (row_items l.fn.row);
  within : l.coordinate ≤ l.fn.row.row.len;
  len : vec_len l.made ≡ vec_len l.fn.list + l.coordinate;
  capacity : vec_capacity l.made ≡ vec_capacity l.fn.list;
}

abbrev pub decreases-loop-made : goal.decreases-loop-made
decreases-loop-made g l = l.end - vec_len l.made
