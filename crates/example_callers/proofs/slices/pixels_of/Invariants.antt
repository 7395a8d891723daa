-- The pixels that were copied and those that are left are all, and each has room.
use Rattle.std.proofs.Common.{◌≡◌, ◌+◌, ◌++◌, ◌≤◌, Some, length, map, vec_len, vec_capacity}
use Rattle.ndarray_layout.specs.declared.Order.TheVariants.{RowMajor}
use Rattle.ndarray_layout.specs.View.{view_places}
use Rattle.nd_owned.specs.Owned.{item_at_place}
use Rattle.example_callers.proofs.slices.pixels_of.Given as goal

abbrev pub invariant-loop-pixel : goal.invariant-loop-pixel
invariant-loop-pixel g l = record {
  items : map Some l.copies.items ++ l.pixel-iterator ≡ map (item_at_place l.fn.picture.items) (view_places RowMajor l.fn.picture.view);
  room : vec_len l.copies + length l.pixel-iterator ≤ vec_capacity l.copies;
}
