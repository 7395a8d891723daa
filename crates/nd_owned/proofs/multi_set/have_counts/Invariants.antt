-- The slices so far fit, and whether there are as many items for each of them is known.
use Rattle.std.proofs.Common.{◌≡◌, ◌&&◌, map, drop}
use Rattle.std.specs.List.{list_all}
use Rattle.nd_owned.specs.MultiSet.{has_count, slices_fault, write_of}
use Rattle.nd_owned.proofs.multi_set.have_counts.Given as goal

abbrev pub invariant-loop-slice : goal.invariant-loop-slice
invariant-loop-slice g l = record {
  fault : slices_fault l.view.shape (map write_of l.writes) ≡ slices_fault l.view.shape (drop l.slice-index (map write_of l.writes));
  counts : list_all (has_count l.view.shape) (map write_of l.writes)
      ≡ (l.have && list_all (has_count l.view.shape) (drop l.slice-index (map write_of l.writes)));
}
