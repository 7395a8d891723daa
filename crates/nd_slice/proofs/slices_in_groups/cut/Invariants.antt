-- The slices so far, cut in groups.
use Rattle.std.proofs.Common.{◌≡◌, ◌≤◌, length, map, take}
use Rattle.nd_slice.specs.SlicesInGroups.{end_at, group_at, named, start_at}
use Rattle.nd_slice.proofs.GroupsCut.{CutSoFar}
use Rattle.nd_slice.proofs.slices_in_groups.cut.Given as goal

abbrev pub invariant-loop-item : goal.invariant-loop-item
invariant-loop-item l = record {
  named : map named l.cut.items ≡ map named (take l.item-index l.items);
  few : l.group ≤ l.item-index;
  cut : CutSoFar (group_at l.items) (start_at l.items) (end_at l.items) (length l.items) l.item-index (group_at l.cut.items)
      l.group l.last l.reach;
}
