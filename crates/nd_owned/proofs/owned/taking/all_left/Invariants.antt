-- The items that were moved and those that are left are all.
use Rattle.std.proofs.Common.{◌≡◌, ◌+◌, ◌≤◌, ◌++◌, Some, length, map, vec_len, vec_capacity}
use Rattle.std.specs.Vec.Iter.{into_iter_items}
use Rattle.nd_owned.proofs.owned.taking.all_left.Given as goal

abbrev pub invariant-loop-item : goal.invariant-loop-item
invariant-loop-item g l = record {
  items : l.left.items ++ map Some (into_iter_items l.item-iterator) ≡ map Some l.fn.items.items;
  room : vec_len l.left + length (into_iter_items l.item-iterator) ≤ vec_capacity l.left;
}
