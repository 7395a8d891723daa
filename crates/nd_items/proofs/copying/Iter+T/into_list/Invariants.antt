-- What is copied and what is left are all, and for what is left there is room.
use Rattle.std.proofs.Common.{◌≡◌, ◌+◌, ◌≤◌, ◌++◌, Some, length, map, vec_capacity, vec_len}
use Rattle.nd_items.proofs.copying.Iter+T.into_list.Given as goal

abbrev pub invariant-loop-row : goal.invariant-loop-row
invariant-loop-row g l = record {
  are : map Some l.list.items ++ l.items ≡ l.fn.self;
  room : vec_len l.list + length l.items ≤ vec_capacity l.list;
}

abbrev pub decreases-loop-row : goal.decreases-loop-row
decreases-loop-row g l = length l.items
