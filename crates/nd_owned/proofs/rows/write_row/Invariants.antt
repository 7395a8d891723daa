-- A stride after the place lies the next one; the items so far are at their places, and nothing else has changed.
use Rattle.std.proofs.Common.{◌≡◌, ◌≢◌, ◌+◌, ◌<◌, ◌^◌, pos, ◌+ℤ◌, ◌*ℤ◌, length, take}
use Rattle.std.specs.List.{AllPairs}
use Rattle.ndarray_layout.specs.Rows.{row_places}
use Rattle.nd_owned.specs.private.Written.{HasWritten}
use Rattle.nd_owned.proofs.rows.write_row.Given as goal

abbrev pub invariant-loop-item : goal.invariant-loop-item
invariant-loop-item g l = record {
  small : l.place < 2 ^ 63;
  next : pos l.place +ℤ l.row.stride ≡ pos l.row.start +ℤ (pos (l.item-index + 1) *ℤ l.row.stride);
  written : AllPairs (λ one other. one ≢ other) (row_places l.row.start l.row.stride (length l.items))
      → HasWritten (row_places l.row.start l.row.stride (l.item-index + 1)) (take (l.item-index + 1) l.items) l.fn.stored l.stored;
}
