-- The slices so far, with their positions.
use Rattle.std.proofs.Common.{◌≡◌, map, take}
use Rattle.std.specs.List.{All, enumerate_from}
use Rattle.nd_slice.specs.SlicesInGroups.{named}
use Rattle.nd_slice.proofs.slices_in_groups.one_group.Given as goal

abbrev pub invariant-loop-position : goal.invariant-loop-position
invariant-loop-position g l = record {
  named : map named l.items.items ≡ take l.position (enumerate_from 0 (map g.S.SliceElems.list l.slices));
  group : All (λ item. item.group ≡ 0) l.items.items;
}
