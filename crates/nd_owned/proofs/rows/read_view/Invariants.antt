-- The items read so far and those of the rows that are left are all.
use Rattle.std.proofs.Common.{◌≡◌, ◌+◌, ◌≤◌, ◌++◌, Some, length, map, vec_len, vec_capacity}
use Rattle.std.specs.List.{All}
use Rattle.ndarray_layout.specs.declared.Order.TheVariants.{RowMajor}
use Rattle.ndarray_layout.specs.Rows.{rows_places}
use Rattle.ndarray_layout.specs.View.{view_places}
use Rattle.nd_lent.specs.Items.{item_at_place}
use Rattle.nd_owned.specs.private.Written.{AreInBounds}
use Rattle.nd_lent.specs.LentRow.{places_of}
use Rattle.nd_owned.proofs.rows.read_view.Given as goal

abbrev pub invariant-loop-row : goal.invariant-loop-row
invariant-loop-row g l = record {
  items : map Some l.items.items ++ map (item_at_place l.stored) (rows_places l.row-iterator)
      ≡ map (item_at_place l.stored) (view_places RowMajor l.fn.view);
  in_bounds : All (λ row. AreInBounds (length l.stored) (places_of row)) l.row-iterator;
  room : vec_len l.items + length (rows_places l.row-iterator) ≤ vec_capacity l.items;
}
