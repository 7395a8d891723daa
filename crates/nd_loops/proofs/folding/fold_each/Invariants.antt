-- Once the items of the rows that are left are folded, all are; the function may be called at them.
use Rattle.std.proofs.Common.{◌≡◌, ◌<◌}
use Rattle.std.specs.List.{All}
use Rattle.std.specs.Iterator.{CallableInFold}
use Rattle.nd_access.specs.LentRow.{rows_items}
use Rattle.nd_access.specs.Lending.{lends}
use Rattle.nd_access.specs.Folded.{HasFolded}
use Rattle.nd_loops.proofs.folding.fold_each.Given as goal

abbrev pub invariant-loop-row : goal.invariant-loop-row
invariant-loop-row g l = record {
  folded : (h : _) (result : _) → HasFolded g.F.FnMut (l.f, l.total) (rows_items l.row-iterator) (h, result)
      → HasFolded g.F.FnMut (l.fn.f, l.fn.init) (rows_items l.fn.rows) (h, result);
  few : 0 < l.fn.few → All (λ row. l.fn.few ≡ row.row.len) l.row-iterator;
  callable : CallableInFold lends g.F.FnMut (rows_items l.row-iterator) l.f l.total;
}
