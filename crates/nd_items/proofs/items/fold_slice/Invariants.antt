-- Once the items that are left are folded, all are; the function may be called at them.
use Rattle.std.proofs.Common.{Some, drop, map}
use Rattle.std.specs.Iterator.{CallableInFold}
use Rattle.nd_access.specs.Lending.{lends_mut}
use Rattle.nd_access.specs.Folded.{HasFoldedMut}
use Rattle.nd_items.proofs.items.fold_slice.Given as goal

abbrev pub invariant-loop-item : goal.invariant-loop-item
invariant-loop-item g l = record {
  folded : (h : _) (result : _) → HasFoldedMut g.F.FnMut (l.f, l.total) (drop l.item-index (map Some l.fn.items)) (h, result)
      → HasFoldedMut g.F.FnMut (l.fn.f, l.fn.init) (map Some l.fn.items) (h, result);
  callable : CallableInFold lends_mut g.F.FnMut (drop l.item-index (map Some l.fn.items)) l.f l.total;
}
