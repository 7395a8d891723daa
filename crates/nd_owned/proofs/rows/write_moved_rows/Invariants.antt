-- Once the items that are left are at the places of the rows that are left, all are at theirs.
use Rattle.std.proofs.Common.{◌≡◌, ◌≢◌, List, drop, length}
use Rattle.std.specs.List.{All, AllPairs}
use Rattle.ndarray_layout.specs.Rows.{rows_places}
use Rattle.nd_lent.specs.LentRow.{places_of}
use Rattle.nd_owned.specs.private.MovedRows.{moved_rows}
use Rattle.nd_owned.specs.private.Written.{AreInBounds, HasWritten}
use Rattle.nd_owned.proofs.rows.write_moved_rows.Given as goal

abbrev pub invariant-loop-row : goal.invariant-loop-row
invariant-loop-row g l =
    let all = moved_rows l.fn.offset l.fn.rows in
    record {
      in_bounds : All (λ row. AreInBounds (length l.fn.stored) (places_of row)) (drop l.row-index all);
      count : length (rows_places (drop l.row-index all)) ≡ length l.left;
      distinct : AllPairs (λ one other. one ≢ other) (rows_places all)
          → AllPairs (λ one other. one ≢ other) (rows_places (drop l.row-index all));
      written : AllPairs (λ one other. one ≢ other) (rows_places all) → (new : List g.row.T.Denot)
          → HasWritten (rows_places (drop l.row-index all)) l.left l.stored new
          → HasWritten (rows_places all) l.fn.items l.fn.stored new;
    }
