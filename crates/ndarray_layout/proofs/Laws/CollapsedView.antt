-- Laws of views of which one coordinate of an axis was taken.
use Rattle.std.proofs.Common.{◌≡◌, ℕ, ◌+◌, ◌<◌, ℤ, pos, ◌+ℤ◌, ◌*ℤ◌, None, List, length, get_or}
use Rattle.std.proofs.Common.{set, map, nat_lt, sym, ap, ◌∙◌, arith}
use Rattle.std.proofs.lemmas.Bool.{and_parts, ltb-true}
use Rattle.std.proofs.lemmas.List.{set-get_or}
use Rattle.std.proofs.lemmas.List.Folds.{flat_map-map}
use Rattle.nd_base.specs.declared.error.ErrorKind.TheVariants.{OutOfBounds}
use Rattle.nd_base.specs.declared.order.Order.TheVariants.{RowMajor}
use Rattle.nd_base.proofs.Laws.Definitions.{below, indices, magnitude}
use Rattle.ndarray_layout.specs.CollapsedView.{collapse_fault, collapsed_start, collapse_of, collapse_source}
use Rattle.ndarray_layout.specs.Descends.{Descends}
use Rattle.ndarray_layout.specs.View.{View, IsPlace, IsView, view_places}
use Rattle.ndarray_layout.proofs.ByRows.{by_rows, places_from, row_from}
use Rattle.ndarray_layout.proofs.AxisByAxis.{lone_coordinate}
use Rattle.ndarray_layout.proofs.OneAxis.{first_coordinate, set_axis}
use Rattle.ndarray_layout.proofs.Passed.{passed}
use Rattle.ndarray_layout.proofs.Laws.Sources.{Descends-own_sources, HasOwnSources, start_within}
use Rattle.std.specs.List.{flat_map}
use Rattle.std.specs.Prelude.{◌&&◌}
use Rattle.nd_base.proofs.Laws.Signed.{magnitude_from}

-- a coordinate that can be taken is one of an axis that there is
pub coordinate_of_no_fault : (shape : List ℕ) (axis index : ℕ) → collapse_fault shape axis index ≡ None
    → (axis < length shape) × (index < get_or shape axis 0)
coordinate_of_no_fault shape axis index none =
    let parts = and_parts (nat_lt axis (length shape)) (nat_lt index (get_or shape axis 0))
    (passed OutOfBounds (nat_lt axis (length shape) && nat_lt index (get_or shape axis 0)) none) in
    (ltb-true axis (length shape) parts.0, ltb-true index (get_or shape axis 0) parts.1)

-- a coordinate of a view that can be taken
module _ (axis index : ℕ) (view : View) (v : IsView view) (none : collapse_fault view.shape axis index ≡ None) where
  own : HasOwnSources (collapse_source axis index) view.shape view.strides (pos index *ℤ get_or view.strides axis (pos 0))
      (set view.shape axis 1) view.strides
  own =
      let at = coordinate_of_no_fault view.shape axis index none in
      rw (set-get_or view.strides axis (pos 0)) at (set_axis view.shape view.strides axis
      (record { counts = v.valid.same_count; there = at.0 })
      (lone_coordinate (get_or view.shape axis 0) index (get_or view.strides axis (pos 0)) at.1) (λ i j below also same. omega arith))

  -- what is left begins at a place
  pub collapsed_start_within : IsPlace (collapsed_start axis index view)
  collapsed_start_within = start_within v own.sources

  pub start-collapse_of : pos (collapse_of axis index view).start ≡ collapsed_start axis index view
  start-collapse_of = magnitude_from (collapsed_start axis index view) collapsed_start_within.0

  -- it is a view of the same data, whose indices lie where their sources do
  pub Descends-collapse_of : Descends (collapse_source axis index) view (collapse_of axis index view)
  Descends-collapse_of = Descends-own_sources v own start-collapse_of

-- where the last axis has its first coordinate alone, the places left begin the rows that it makes: the places of the view are those of
-- the rows, in order
pub places-collapse_of_last : (view : View) (last : ℕ) (starts : List ℕ) → length view.shape ≡ last + 1 → length view.strides ≡ last + 1
    → map pos starts ≡ view_places RowMajor (collapse_of last 0 view)
    → view_places RowMajor view
    ≡ flat_map (λ start. map (λ coordinate. pos start +ℤ (pos coordinate *ℤ get_or view.strides last (pos 0)))
    (below (get_or view.shape last 0))) starts
places-collapse_of_last view last starts long also same =
    let stride = get_or view.strides last (pos 0) in
    let row = λ (start : ℤ). row_from start stride (get_or view.shape last 0) in
    let begins : magnitude (collapsed_start last 0 view) ≡ view.start = ap magnitude (first_coordinate view.start stride) in
    by_rows (pos view.start) view.shape view.strides last long also
    ∙ ap (λ n. flat_map row (places_from (pos n) view.strides (indices (set view.shape last 1)))) (sym begins)
    ∙ ap (flat_map row) (sym same)
    ∙ flat_map-map row pos starts
