-- The places so far are written, and the others are still to come; there is just room for them.
use Rattle.std.proofs.Common.{◌≡◌, ◌+◌, ◌++◌, pos, length, map, take}
use Rattle.ndarray_layout.specs.View.{view_places}
use Rattle.ndarray_layout_c.proofs.indices.fill_places.Given as goal

abbrev pub invariant-loop-at : goal.invariant-loop-at
invariant-loop-at l = record {
  room : l.at-iterator.count + length l.at-iterator.iter ≡ length l.places;
  written : map pos (take l.at-iterator.count l.places) ++ l.at-iterator.iter ≡ view_places l.fn.order l.fn.view;
}
