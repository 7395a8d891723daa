-- Once the items of the rows that are left are copied, all are.
use Rattle.std.proofs.Common.{◌≡◌, ◌<◌, List, length}
use Rattle.std.specs.List.{All, AllZip}
use Rattle.ndarray_layout.specs.Rows.{rows_places}
use Rattle.nd_access.specs.LentRow.{rows_items}
use Rattle.nd_access.specs.Rights.{right_of}
use Rattle.nd_access.specs.Written.{HasSet}
use Rattle.nd_loops.specs.OwnedRows.{OwnsEachRow}
use Rattle.nd_loops.proofs.writing.copy_each.Given as goal

abbrev pub invariant-loop-row : goal.invariant-loop-row
invariant-loop-row g l = record {
  few : 0 < g.row.FEW → All (λ row. g.row.FEW ≡ row.len) l.row-iterator;
  some : All (λ row. 0 < row.len) l.row-iterator;
  rows : OwnsEachRow l.fn.cells.marks l.row-iterator;
  count : AllZip (λ row source. row.len ≡ source.row.len) l.row-iterator l.sources;
  long : length l.cells.items ≡ length l.fn.cells.items;
  keeps_access : right_of l.cells ≡ right_of l.fn.cells;
  copied : (new : List g.row.T.Denot) → HasSet (rows_places l.row-iterator) (rows_items l.sources) l.cells.items new
      → HasSet (rows_places l.fn.rows) (rows_items l.fn.sources) l.fn.cells.items new;
}
