-- The items read so far and those of the rows that are left are all.
use Rattle.std.proofs.Common.{◌≡◌, ◌+◌, ◌≤◌, ◌++◌, Some, drop, length, map, vec_len, vec_capacity}
use Rattle.std.specs.List.{All}
use Rattle.ndarray_layout.specs.Rows.{rows_places}
use Rattle.nd_lent.specs.Items.{item_at_place}
use Rattle.nd_lent.specs.LentRow.{places_of}
use Rattle.nd_owned.specs.private.MovedRows.{moved_rows}
use Rattle.nd_owned.specs.private.Written.{AreInBounds}
use Rattle.nd_owned.proofs.rows.read_moved_rows.Given as goal

abbrev pub invariant-loop-row : goal.invariant-loop-row
invariant-loop-row g l =
    let all = moved_rows l.fn.offset l.fn.rows in
    record {
      items : map Some l.items.items ++ map (item_at_place l.fn.stored) (rows_places (drop l.row-index all))
          ≡ map (item_at_place l.fn.stored) (rows_places all);
      in_bounds : All (λ row. AreInBounds (length l.fn.stored) (places_of row)) (drop l.row-index all);
      room : vec_len l.items + length (rows_places (drop l.row-index all)) ≤ vec_capacity l.items;
    }
