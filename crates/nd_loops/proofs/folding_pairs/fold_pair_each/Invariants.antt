-- Once the pairs of the rows that are left are folded, all are; the function may be called at them.
use Rattle.std.proofs.Common.{◌≡◌, ◌<◌}
use Rattle.std.specs.List.{All, AllZip}
use Rattle.nd_access.specs.LentRow.{rows_items}
use Rattle.nd_access.specs.Zipped.{pairs_of}
use Rattle.nd_loops.specs.FoldedPairs.{CallableInFoldOfPairs, HasFoldedPairs}
use Rattle.nd_loops.proofs.folding_pairs.fold_pair_each.Given as goal

abbrev pub invariant-loop-row : goal.invariant-loop-row
invariant-loop-row g l = record {
  few : 0 < g.row.FEW → All (λ row. g.row.FEW ≡ row.row.len) l.row-iterator;
  count : AllZip (λ row other. row.row.len ≡ other.row.len) l.row-iterator l.others;
  folded : (h : _) (result : _)
      → HasFoldedPairs g.F.FnMut (l.f, l.total) (pairs_of (rows_items l.row-iterator) (rows_items l.others)) (h, result)
      → HasFoldedPairs g.F.FnMut (l.fn.f, l.fn.init) (pairs_of (rows_items l.fn.rows) (rows_items l.fn.others)) (h, result);
  callable : CallableInFoldOfPairs g.F.FnMut (pairs_of (rows_items l.row-iterator) (rows_items l.others)) l.f l.total;
}
