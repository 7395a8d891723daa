-- Both halves make up the sum of the items so far, each at most 2 ^ 32 for each item.
use Rattle.std.proofs.Common.{◌≡◌, ◌+◌, ◌*◌, ◌≤◌, ◌^◌, take}
use Rattle.std.specs.List.{sum_by}
use Rattle.nd_loops.proofs.summing.sum_few.Given as goal

abbrev pub invariant-loop-item : goal.invariant-loop-item
invariant-loop-item g l = record {
  sum : l.low + 2 ^ 32 * l.high ≡ sum_by g.T.Unsigned.number (take l.item-index l.fn.items);
  low : l.low ≤ 2 ^ 32 * l.item-index;
  high : l.high ≤ 2 ^ 32 * l.item-index;
}
