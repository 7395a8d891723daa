-- With the places of the rows that are left, those so far are all.
use Rattle.std.proofs.Common.{◌≡◌, ◌+◌, ◌≤◌, ◌^◌, pos, ◌++◌, length, map, vec_len, vec_capacity}
use Rattle.std.specs.List.{All}
use Rattle.nd_base.specs.Bounds.{IsInBounds}
use Rattle.nd_base.specs.Size.{limit}
use Rattle.ndarray_layout.specs.Rows.{rows_places}
use Rattle.ndarray_layout.proofs.strided.places.push_rows.Given as goal

abbrev pub invariant-loop-row : goal.invariant-loop-row
invariant-loop-row l = record {
  items : map pos l.places.items ++ rows_places l.row-iterator ≡ map pos l.initial.places.items ++ rows_places l.fn.rows;
  len : vec_len l.places + length (rows_places l.row-iterator) ≡ vec_len l.initial.places + length (rows_places l.fn.rows);
  capacity : vec_capacity l.places ≡ vec_capacity l.initial.places;
  in_bounds : All (IsInBounds (2 ^ 63)) (rows_places l.row-iterator);
  few : length (rows_places l.row-iterator) ≤ limit;
}
