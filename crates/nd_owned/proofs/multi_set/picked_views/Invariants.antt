-- The parts of the slices so far, with the items for them; with those that are left these are all.
use Rattle.std.proofs.Common.{◌≡◌, ℕ, ◌++◌, length, map, drop}
use Rattle.std.specs.List.{All, flat_map}
use Rattle.ndarray_layout.specs.Size.{size}
use Rattle.ndarray_layout.specs.View.{LiesWithin}
use Rattle.nd_owned.specs.private.PickedView.{picked_places, view_of_picked}
use Rattle.nd_owned.specs.MultiSet.{write_of, write_places}
use Rattle.nd_owned.proofs.multi_set.picked_views.Given as goal

abbrev pub invariant-loop-slice : goal.invariant-loop-slice
invariant-loop-slice g l = record {
  places : flat_map (λ one. picked_places one.view) l.parts.items
      ++ flat_map (write_places l.view) (drop l.slice-index (map write_of l.writes))
      ≡ flat_map (write_places l.view) (map write_of l.writes);
  items : flat_map (λ one. one.items.now) l.parts.items
      ++ flat_map (λ write. write.items) (drop l.slice-index (map write_of l.writes))
      ≡ flat_map (λ write. write.items) (map write_of l.writes);
  counts : All (λ one. size (view_of_picked one.view).shape ≡ length one.items.now) l.parts.items;
  in_bounds : (len : ℕ) → LiesWithin len l.view → All (λ one. LiesWithin len (view_of_picked one.view)) l.parts.items;
}
