-- The items so far have passed, and the function may be called at the others.
use Rattle.std.proofs.Common.{Some, map, take, drop}
use Rattle.std.specs.Iterator.{CallableWhile}
use Rattle.std.specs.Prelude.{not}
use Rattle.nd_access.specs.Lending.{lends}
use Rattle.nd_loops.proofs.Laws.Searching.{HasPassed}
use Rattle.nd_loops.proofs.searching.search_slice.Given as goal

abbrev pub invariant-loop-item : goal.invariant-loop-item
invariant-loop-item g l = record {
  passed : HasPassed g.F.FnMut l.fn.wanted l.initial.f (take l.item-index (map Some l.fn.items)) l.f;
  callable : CallableWhile lends g.F.FnMut (not l.fn.wanted) (drop l.item-index (map Some l.fn.items)) l.f;
}
