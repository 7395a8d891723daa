-- The pairs so far are folded, and the function may be called at the others.
use Rattle.std.proofs.Common.{take, drop}
use Rattle.nd_access.specs.LentRow.{row_items}
use Rattle.nd_access.specs.Zipped.{pairs_of}
use Rattle.nd_loops.specs.FoldedPairs.{CallableInFoldOfPairs, HasFoldedPairs}
use Rattle.nd_loops.proofs.folding_pairs.fold_pair_places.Given as goal

abbrev pub invariant-loop-coordinate : goal.invariant-loop-coordinate
invariant-loop-coordinate g l = record {
  folded : HasFoldedPairs g.F.FnMut (l.initial.f, l.fn.init)
      (take l.coordinate (pairs_of (row_items l.fn.row) (row_items l.fn.other))) (l.f, l.total);
  callable : CallableInFoldOfPairs g.F.FnMut (drop l.coordinate (pairs_of (row_items l.fn.row) (row_items l.fn.other))) l.f l.total;
}
