-- The items so far have passed, and the function may be called at the others.
use Rattle.std.proofs.Common.{take, drop}
use Rattle.std.specs.Iterator.{CallableWhile}
use Rattle.std.specs.Prelude.{not}
use Rattle.nd_access.specs.LentRow.{row_items}
use Rattle.nd_access.specs.Lending.{lends}
use Rattle.nd_loops.proofs.Laws.Searching.{HasPassed}
use Rattle.nd_loops.proofs.searching.search_places.Given as goal

abbrev pub invariant-loop-coordinate : goal.invariant-loop-coordinate
invariant-loop-coordinate g l = record {
  passed : HasPassed g.F.FnMut l.fn.wanted l.initial.f (take l.coordinate (row_items l.fn.row)) l.f;
  callable : CallableWhile lends g.F.FnMut (not l.fn.wanted) (drop l.coordinate (row_items l.fn.row)) l.f;
}
