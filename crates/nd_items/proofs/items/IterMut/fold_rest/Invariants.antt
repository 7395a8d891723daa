-- Once the items that are left are folded, all are; the function may be called at them.
use Rattle.std.proofs.Common.{length}
use Rattle.std.specs.Iterator.{CallableInFold}
use Rattle.nd_items.specs.ItemsLeft.{items_left}
use Rattle.nd_access.specs.Lending.{lends_mut}
use Rattle.nd_access.specs.Folded.{HasFoldedMut}
use Rattle.nd_items.proofs.items.IterMut.fold_rest.Given as goal

abbrev pub invariant-loop-cells : goal.invariant-loop-cells
invariant-loop-cells g l = record {
  folded : (h : _) (result : _) → HasFoldedMut g.F.FnMut (l.f, l.total) (items_left l.items) (h, result)
      → HasFoldedMut g.F.FnMut (l.fn.f, l.fn.init) (items_left l.fn.self) (h, result);
  callable : CallableInFold lends_mut g.F.FnMut (items_left l.items) l.f l.total;
}

abbrev pub decreases-loop-cells : goal.decreases-loop-cells
decreases-loop-cells g l = length (items_left l.items)
