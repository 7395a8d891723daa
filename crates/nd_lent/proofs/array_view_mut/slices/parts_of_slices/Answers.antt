-- The part of one more slice is split off; only an allocation can fail.
use Rattle.std.proofs.Common.{◌≡◌, None, map, refl, ◌∙◌}
use Rattle.ndarray_layout.specs.declared.Fit.TheVariants.{Strict}
use Rattle.ndarray_layout.specs.SlicedView.{view_slice_fault}
use Rattle.ndarray_layout.specs.View.{View}
use Rattle.nd_lent.proofs.Laws.Faults.{each_view_slice_fits, handed_on, view_slices_fit}
use Rattle.nd_access.proofs.Laws.Lists.{next, of_this}
use Rattle.nd_lent.specs.Lent.{array_of}
use Rattle.nd_lent.specs.Slices.{slice_array}
use Rattle.nd_lent.proofs.SlicesApart.{left_at_first, next_marked, left_by_one, own_part, made_so, parts_begin, part_pushed}
use Rattle.nd_lent.proofs.array_view_mut.slices.parts_of_slices.Goals as goal

pub loop-slice-init : goal.loop-slice-init
loop-slice-init g c = (
  parts_begin array_of (slice_array c.args.cells.items c.args.view.now) (map g.S.SliceElems.list c.args.slices.now)
      c.in_ok-parts.ensures.items,
  refl,
  left_at_first (map g.S.SliceElems.list c.args.slices.now) c.requires.part
      (view_slices_fit g.E.FixedCount.NDIM c.args.view.now.shape (map g.S.SliceElems.list c.args.slices.now) c.requires.fits)
      c.requires.apart,
)

pub returns-in_err-picked-clause-fault : goal.returns-in_err-picked-clause-fault
returns-in_err-picked-clause-fault g c =
    let view = c.args.view.now in
    let slices = c.args.slices.now in
    let fixed = g.E.FixedCount.NDIM in
    let fits = of_this (λ slice. view_slice_fault Strict fixed view.shape slice ≡ None) g.S.SliceElems.list slices
    c.loop-slice.slice-index c.loop-slice-test.true c.slice-item.is
    (each_view_slice_fits fixed view.shape (map g.S.SliceElems.list slices) c.requires.fits) in
    handed_on View c.from_residual-in_err-picked.result c.in_err-picked.field-0.0 c.from_residual-in_err-picked.ensures.1
    (c.in_err-picked.ensures.fault ∙ fits)

pub take_view-one-requires : goal.take_view-one-requires
take_view-one-requires g c =
    own_part c.in_ok-picked.ensures.kept c.requires.part.distinct
    (next_marked c.loop-slice.invariant.2
    (next g.S.SliceElems.list c.args.slices.now c.loop-slice.slice-index c.loop-slice-test.true c.slice-item.is)
    c.in_ok-picked.ensures.sliced)

pub of_cells-requires : goal.of_cells-requires
of_cells-requires g c = c.take_view-one.ensures.part

pub loop-slice-preserved : goal.loop-slice-preserved
loop-slice-preserved g c =
    let from = next g.S.SliceElems.list c.args.slices.now c.loop-slice.slice-index c.loop-slice-test.true c.slice-item.is in (
      part_pushed array_of (slice_array c.args.cells.items c.args.view.now) c.loop-slice.parts.items c.in_ok-push.ensures.items from
          (made_so (c.of_cells.ensures.items ∙ c.take_view-one.ensures.items ∙ c.loop-slice.invariant.1)
          (c.of_cells.ensures.view ∙ c.in_ok-picked.ensures.sliced))
          c.loop-slice.invariant.0,
      c.take_view-one.ensures.kept ∙ c.loop-slice.invariant.1,
      left_by_one c.loop-slice.invariant.2 from c.in_ok-picked.ensures.sliced c.take_view-one.ensures.left,
    )
