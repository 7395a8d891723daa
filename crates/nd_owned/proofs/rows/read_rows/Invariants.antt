-- The items read so far and those of the rows that are left are all.
use Rattle.std.proofs.Common.{◌≡◌, ◌+◌, ◌≤◌, ◌++◌, Some, drop, length, map, vec_len, vec_capacity}
use Rattle.std.specs.List.{All}
use Rattle.ndarray_layout.specs.Rows.{rows_places}
use Rattle.ndarray_layout.specs.Signed.{signed}
use Rattle.nd_lent.specs.Items.{item_at_place}
use Rattle.nd_lent.specs.LentRow.{places_of}
use Rattle.nd_owned.specs.private.EvenRows.{even_rows}
use Rattle.nd_owned.specs.private.Written.{AreInBounds}
use Rattle.nd_owned.proofs.rows.read_rows.Given as goal

abbrev pub invariant-loop-number : goal.invariant-loop-number
invariant-loop-number g l =
    let all = even_rows l.fn.rows.start l.fn.rows.step l.fn.rows.len l.fn.rows.count (signed l.fn.rows.stride) in
    record {
      items : map Some l.items.items ++ map (item_at_place l.fn.stored) (rows_places (drop l.number all))
          ≡ map (item_at_place l.fn.stored) (rows_places all);
      in_bounds : All (λ row. AreInBounds (length l.fn.stored) (places_of row)) (drop l.number all);
      room : vec_len l.items + length (rows_places (drop l.number all)) ≤ vec_capacity l.items;
    }
