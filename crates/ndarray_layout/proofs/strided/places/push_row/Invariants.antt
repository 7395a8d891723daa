-- So far the first places of the row are appended.
use Rattle.std.proofs.Common.{◌≡◌, ◌+◌, pos, ◌++◌, map, vec_len, vec_capacity}
use Rattle.ndarray_layout.specs.Rows.{row_places}
use Rattle.ndarray_layout.proofs.strided.places.push_row.Given as goal

abbrev pub invariant-loop-i : goal.invariant-loop-i
invariant-loop-i l = record {
  items : map pos l.places.items ≡ map pos l.initial.places.items ++ row_places l.row.start l.row.stride l.i;
  len : vec_len l.places ≡ vec_len l.initial.places + l.i;
  capacity : vec_capacity l.places ≡ vec_capacity l.initial.places;
}
