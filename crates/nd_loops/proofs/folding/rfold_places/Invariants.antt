-- The items so far are folded, from the last one on, and the function may be called at the others.
use Rattle.std.proofs.Common.{take, drop, reverse}
use Rattle.std.specs.Iterator.{CallableInFold}
use Rattle.nd_access.specs.LentRow.{row_items}
use Rattle.nd_access.specs.Lending.{lends}
use Rattle.nd_access.specs.Folded.{HasFolded}
use Rattle.nd_loops.proofs.folding.rfold_places.Given as goal

abbrev pub invariant-loop-coordinate : goal.invariant-loop-coordinate
invariant-loop-coordinate g l = record {
  folded : HasFolded g.F.FnMut (l.initial.f, l.fn.init) (take l.coordinate (reverse (row_items l.fn.row))) (l.f, l.total);
  callable : CallableInFold lends g.F.FnMut (drop l.coordinate (reverse (row_items l.fn.row))) l.f l.total;
}
