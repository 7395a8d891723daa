-- Once the items that are left are at the places of the rows that are left, all are at theirs.
use Rattle.std.proofs.Common.{◌≡◌, ◌≢◌, List, drop, length}
use Rattle.std.specs.List.{All, AllPairs}
use Rattle.ndarray_layout.specs.Rows.{rows_places}
use Rattle.ndarray_layout.specs.Signed.{signed}
use Rattle.nd_lent.specs.LentRow.{places_of}
use Rattle.nd_owned.specs.private.EvenRows.{even_rows}
use Rattle.nd_owned.specs.private.Written.{AreInBounds, HasWritten}
use Rattle.nd_owned.proofs.rows.write_rows.Given as goal

abbrev pub invariant-loop-number : goal.invariant-loop-number
invariant-loop-number g l =
    let all = even_rows l.fn.rows.start l.fn.rows.step l.fn.rows.len l.fn.rows.count (signed l.fn.rows.stride) in
    record {
      in_bounds : All (λ row. AreInBounds (length l.fn.stored) (places_of row)) (drop l.number all);
      count : length (rows_places (drop l.number all)) ≡ length l.left;
      distinct : AllPairs (λ one other. one ≢ other) (rows_places all)
          → AllPairs (λ one other. one ≢ other) (rows_places (drop l.number all));
      written : AllPairs (λ one other. one ≢ other) (rows_places all) → (new : List g.row.T.Denot)
          → HasWritten (rows_places (drop l.number all)) l.left l.stored new
          → HasWritten (rows_places all) l.fn.items l.fn.stored new;
    }
