-- The slices so far have no error.
use Rattle.std.proofs.Common.{◌≡◌, map, drop}
use Rattle.ndarray_layout.specs.declared.Fit.TheVariants.{Strict}
use Rattle.nd_lent.specs.Slices.{view_slices_fault}
use Rattle.nd_lent.proofs.array_view_mut.slices.check_slices_into.Given as goal

abbrev pub invariant-loop-slice : goal.invariant-loop-slice
invariant-loop-slice g l = view_slices_fault Strict l.fixed l.shape (map g.S.SliceElems.list l.slices)
    ≡ view_slices_fault Strict l.fixed l.shape (drop l.slice-index (map g.S.SliceElems.list l.slices))
