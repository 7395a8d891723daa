-- The slices so far fit.
use Rattle.std.proofs.Common.{◌≡◌, map, drop}
use Rattle.nd_slice.proofs.Definitions.{slices_fault}
use Rattle.nd_slice.proofs.intersecting_pair.check_slices.Given as goal

abbrev pub invariant-loop-slice : goal.invariant-loop-slice
invariant-loop-slice g l = slices_fault l.fit l.shape (map g.S.SliceElems.list l.slices)
    ≡ slices_fault l.fit l.shape (drop l.slice-index (map g.S.SliceElems.list l.slices))
