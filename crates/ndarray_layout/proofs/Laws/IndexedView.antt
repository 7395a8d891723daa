-- Laws of views at one coordinate of an axis, without the axis.
use Rattle.std.proofs.Common.{◌≡◌, ℕ, ◌<◌, ◌^◌, pos, None, arith}
use Rattle.nd_base.proofs.Laws.NonzeroSize.{length_le_nonzero_size}
use Rattle.nd_base.proofs.Laws.Signed.{magnitude_from}
use Rattle.ndarray_layout.specs.CollapsedView.{collapse_fault, collapsed_start}
use Rattle.ndarray_layout.specs.Descends.{Descends}
use Rattle.ndarray_layout.specs.IndexedView.{indexed_of, index_source}
use Rattle.ndarray_layout.specs.View.{View, IsView}
use Rattle.ndarray_layout.proofs.OneAxis.{HasAxis, remove_axis}
use Rattle.ndarray_layout.proofs.Laws.CollapsedView.{collapsed_start_within, coordinate_of_no_fault}
use Rattle.ndarray_layout.proofs.Laws.Sources.{Descends-own_sources}

-- a coordinate of a view that can be taken
module _ (axis index : ℕ) (view : View) (v : IsView view) (none : collapse_fault view.shape axis index ≡ None) where
  -- the coordinate is a number of 63 bits
  pub index_small : index < 2 ^ 63
  index_small = omega (
    arith,
    (coordinate_of_no_fault view.shape axis index none).1,
    length_le_nonzero_size view.shape axis,
    v.valid.size_fits,
  )

  -- what is left begins where the coordinate does
  pub start-indexed_of : pos (indexed_of axis index view).start ≡ collapsed_start axis index view
  start-indexed_of = magnitude_from (collapsed_start axis index view) (collapsed_start_within axis index view v none).0

  -- it is a view of the same data, whose indices lie where their sources do
  pub Descends-indexed_of : Descends (index_source axis index) view (indexed_of axis index view)
  Descends-indexed_of =
      let at = coordinate_of_no_fault view.shape axis index none in
      let has : HasAxis view.shape view.strides axis = record { counts = v.valid.same_count; there = at.0 } in
      Descends-own_sources v (remove_axis view.shape view.strides axis has at.1) start-indexed_of
