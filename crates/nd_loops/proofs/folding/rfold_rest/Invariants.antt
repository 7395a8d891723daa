-- Once the items that are left are folded, all are; the function may be called at them.
use Rattle.std.proofs.Common.{length, reverse}
use Rattle.std.specs.Iterator.{CallableInFold}
use Rattle.nd_access.specs.Lending.{lends}
use Rattle.nd_access.specs.Folded.{HasFolded}
use Rattle.nd_loops.proofs.folding.rfold_rest.Given as goal

abbrev pub invariant-loop-row : goal.invariant-loop-row
invariant-loop-row g l = record {
  folded : (h : _) (result : _) → HasFolded g.F.FnMut (l.f, l.total) (reverse (g.I.RowByRow.left l.items)) (h, result)
      → HasFolded g.F.FnMut (l.fn.f, l.fn.init) (reverse (g.I.RowByRow.left l.fn.items)) (h, result);
  callable : CallableInFold lends g.F.FnMut (reverse (g.I.RowByRow.left l.items)) l.f l.total;
}

abbrev pub decreases-loop-row : goal.decreases-loop-row
decreases-loop-row g l = length (g.I.RowByRow.left l.items)
