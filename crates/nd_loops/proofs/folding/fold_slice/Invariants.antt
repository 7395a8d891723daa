-- The items so far are folded, and the function may be called at the others.
use Rattle.std.proofs.Common.{Some, map, take, drop}
use Rattle.std.specs.Iterator.{CallableInFold}
use Rattle.nd_access.specs.Lending.{lends}
use Rattle.nd_access.specs.Folded.{HasFolded}
use Rattle.nd_loops.proofs.folding.fold_slice.Given as goal

abbrev pub invariant-loop-item : goal.invariant-loop-item
invariant-loop-item g l = record {
  folded : HasFolded g.F.FnMut (l.initial.f, l.fn.init) (take l.item-index (map Some l.fn.items)) (l.f, l.total);
  callable : CallableInFold lends g.F.FnMut (drop l.item-index (map Some l.fn.items)) l.f l.total;
}
