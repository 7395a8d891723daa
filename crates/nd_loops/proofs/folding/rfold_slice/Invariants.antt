-- Once the items that are left are folded, all are; the function may be called at them.
use Rattle.std.proofs.Common.{Some, map, reverse}
use Rattle.std.specs.Iterator.{CallableInFold}
use Rattle.nd_access.specs.Lending.{lends}
use Rattle.nd_access.specs.Folded.{HasFolded}
use Rattle.nd_loops.proofs.folding.rfold_slice.Given as goal

abbrev pub invariant-loop-item : goal.invariant-loop-item
invariant-loop-item g l = record {
  folded : (h : _) (result : _) → HasFolded g.F.FnMut (l.f, l.total) (reverse (map Some l.item-iterator.iter.rest.now)) (h, result)
      → HasFolded g.F.FnMut (l.initial.f, l.fn.init) (reverse (map Some l.fn.items)) (h, result);
  callable : CallableInFold lends g.F.FnMut (reverse (map Some l.item-iterator.iter.rest.now)) l.f l.total;
}
