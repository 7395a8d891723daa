-- The items read so far and those of the places that are left are all.
use Rattle.std.proofs.Common.{◌≡◌, ◌+◌, ◌≤◌, ◌++◌, Some, length, map, vec_len, vec_capacity}
use Rattle.std.specs.List.{All}
use Rattle.ndarray_layout.specs.Bounds.{IsInBounds}
use Rattle.nd_lent.specs.Items.{item_at_place}
use Rattle.nd_owned.proofs.rows.read_places.Given as goal

abbrev pub invariant-loop-place : goal.invariant-loop-place
invariant-loop-place g l = record {
  items : map Some l.items.items ++ map (item_at_place l.stored) l.place-iterator
      ≡ map Some l.fn.items.items ++ map (item_at_place l.stored) l.fn.places;
  in_bounds : All (IsInBounds (length l.stored)) l.place-iterator;
  room : vec_len l.items + length l.place-iterator ≤ vec_capacity l.items;
}
