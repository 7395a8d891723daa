-- A stride after the place lies the next one, and the items so far are read.
use Rattle.std.proofs.Common.{◌≡◌, ◌+◌, ◌<◌, ◌^◌, pos, ◌+ℤ◌, ◌*ℤ◌, Some, ◌++◌, map, vec_len, vec_capacity}
use Rattle.ndarray_layout.specs.Rows.{row_places}
use Rattle.nd_lent.specs.Items.{item_at_place}
use Rattle.nd_owned.proofs.rows.push_row.Given as goal

abbrev pub invariant-loop-coordinate : goal.invariant-loop-coordinate
invariant-loop-coordinate g l = record {
  small : l.place < 2 ^ 63;
  next : pos l.place +ℤ l.row.stride ≡ pos l.row.start +ℤ (pos l._coordinate *ℤ l.row.stride);
  items : map Some l.items.items ≡ map Some l.fn.items.items ++ map (item_at_place l.stored)
      (row_places l.row.start l.row.stride l._coordinate);
  len : vec_len l.items ≡ vec_len l.fn.items + l._coordinate;
  capacity : vec_capacity l.items ≡ vec_capacity l.fn.items;
}
