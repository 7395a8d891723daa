-- So far, with the items that are left, it is the sum of all; fewer items are left after each turn.
use Rattle.std.proofs.Common.{◌≡◌, ◌+◌, ◌<◌, ◌^◌, length}
use Rattle.std.specs.List.{sum_by}
use Rattle.nd_loops.proofs.summing.sum_slice.Given as goal

abbrev pub invariant-loop-left : goal.invariant-loop-left
invariant-loop-left g l = record {
  sum : l.total + sum_by g.T.Unsigned.number l.left ≡ sum_by g.T.Unsigned.number l.fn.items;
  fits : l.total < 2 ^ 64;
}

abbrev pub decreases-loop-left : goal.decreases-loop-left
decreases-loop-left g l = length l.left
