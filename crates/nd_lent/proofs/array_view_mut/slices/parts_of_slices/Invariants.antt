-- The parts so far, with those of the slices that are left, are all, and what is left of the right has a mark at each place of these.
use Rattle.std.proofs.Common.{◌≡◌, ◌++◌, map, drop}
use Rattle.nd_lent.specs.Lent.{array_of}
use Rattle.nd_lent.specs.Slices.{slice_array}
use Rattle.nd_lent.proofs.SlicesApart.{AreLeft}
use Rattle.nd_lent.proofs.array_view_mut.slices.parts_of_slices.Given as goal

abbrev pub invariant-loop-slice : goal.invariant-loop-slice
invariant-loop-slice g l =
    (map array_of l.parts.items ++ map (slice_array l.fn.cells.items l.view) (drop l.slice-index (map g.S.SliceElems.list l.slices))
    ≡ map (slice_array l.fn.cells.items l.view) (map g.S.SliceElems.list l.slices))
    × (l.left.items ≡ l.fn.cells.items)
    × AreLeft l.left.marks l.view (drop l.slice-index (map g.S.SliceElems.list l.slices))
