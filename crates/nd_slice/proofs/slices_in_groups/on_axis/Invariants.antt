-- The slices so far, with their ranges.
use Rattle.std.proofs.Common.{◌≡◌, map, take}
use Rattle.std.specs.List.{All}
use Rattle.nd_slice.specs.SlicesInGroups.{IsOnAxis, kept}
use Rattle.nd_slice.proofs.slices_in_groups.on_axis.Given as goal

abbrev pub invariant-loop-item : goal.invariant-loop-item
invariant-loop-item l = record {
  kept : map kept l.new.items ≡ map kept (take l.item-index l.items);
  on_axis : All (IsOnAxis l.fit l.shape l.axis l.by) l.new.items;
}
