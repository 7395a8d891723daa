-- The rows listed so far, with those that are left, have all places, and each has one.
use Rattle.std.proofs.Common.{◌≡◌, ◌+◌, ◌<◌, ◌≤◌, ◌++◌, length, vec_capacity, vec_len}
use Rattle.std.specs.List.{All}
use Rattle.ndarray_layout.specs.declared.Order.TheVariants.{RowMajor}
use Rattle.ndarray_layout.specs.Rows.{rows_places}
use Rattle.ndarray_layout.specs.View.{view_places}
use Rattle.nd_owned.proofs.ready.list_rows.Given as goal

abbrev pub invariant-loop-row : goal.invariant-loop-row
invariant-loop-row g l = record {
  places : rows_places (l.rows.items ++ l.row-iterator) ≡ view_places RowMajor l.fn.view;
  some : All (λ row. 0 < row.len) (l.rows.items ++ l.row-iterator);
  room : vec_len l.rows + length l.row-iterator ≤ vec_capacity l.rows;
}
