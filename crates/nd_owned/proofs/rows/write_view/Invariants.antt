-- Once the items that are left are at the places of the rows that are left, all are at theirs.
use Rattle.std.proofs.Common.{◌≡◌, ◌≢◌, List, length}
use Rattle.std.specs.List.{All, AllPairs}
use Rattle.ndarray_layout.specs.declared.Order.TheVariants.{RowMajor}
use Rattle.ndarray_layout.specs.Rows.{rows_places}
use Rattle.ndarray_layout.specs.View.{view_places}
use Rattle.nd_owned.specs.private.Written.{AreInBounds, HasWritten}
use Rattle.nd_lent.specs.LentRow.{places_of}
use Rattle.nd_owned.proofs.rows.write_view.Given as goal

abbrev pub invariant-loop-row : goal.invariant-loop-row
invariant-loop-row g l = record {
  in_bounds : All (λ row. AreInBounds (length l.fn.stored) (places_of row)) l.row-iterator;
  count : length (rows_places l.row-iterator) ≡ length l.left;
  distinct : AllPairs (λ one other. one ≢ other) (view_places RowMajor l.fn.view)
      → AllPairs (λ one other. one ≢ other) (rows_places l.row-iterator);
  written : AllPairs (λ one other. one ≢ other) (view_places RowMajor l.fn.view) → (new : List g.row.T.Denot)
      → HasWritten (rows_places l.row-iterator) l.left l.stored new
      → HasWritten (view_places RowMajor l.fn.view) l.fn.items l.fn.stored new;
}
