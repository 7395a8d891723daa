-- The slices so far are in groups that share no index.
use Rattle.std.proofs.Common.{◌≤◌, map}
use Rattle.std.specs.List.{All}
use Rattle.std.specs.List.Sorted.{IsPermutation}
use Rattle.nd_slice.specs.SlicesInGroups.{AreApartAcross, AreInGroups, HasNoFault, named}
use Rattle.nd_slice.proofs.intersections_sorted.in_groups.Given as goal

abbrev pub invariant-loop-turn : goal.invariant-loop-turn
invariant-loop-turn l = record {
  named : IsPermutation (map named l.fn.items.items) (map named l.new.items);
  fits : All (HasNoFault l.fit l.shape) l.new.items;
  in_order : AreInGroups l.new.items;
  apart : AreApartAcross l.fit l.shape l.new.items;
  idle : l.idle ≤ l.turn;
}
