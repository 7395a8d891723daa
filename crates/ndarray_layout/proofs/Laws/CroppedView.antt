-- Laws of views of a range of coordinates on each axis.
use Rattle.std.proofs.Common.{◌≡◌, ℕ, suc, ◌<◌, ◌≤◌, pos, ◌+ℤ◌, List, [], ◌∷◌, length, get_or, refl, ap, sym, ◌∙◌, arith}
use Rattle.std.specs.List.{All}
use Rattle.std.proofs.lemmas.List.Elements.{length_all_zip}
use Rattle.nd_base.proofs.Laws.Definitions.{farthest_offset, limit, magnitude, offset_of}
use Rattle.nd_base.proofs.Laws.FarthestOffset.{farthest_offset_le}
use Rattle.nd_base.proofs.Laws.NonzeroSize.{coordinate_le_nonzero_size}
use Rattle.nd_base.proofs.Laws.Signed.{magnitude_from}
use Rattle.nd_base.specs.Elementwise.{differences, sums, DifferencesFit}
use Rattle.nd_slice.specs.declared.fit.Fit.TheVariants.{Strict}
use Rattle.nd_slice.proofs.Laws.UnitStep.{ranges_between, shape_between}
use Rattle.ndarray_layout.specs.CroppedView.{RangesFit, moved_starts, cropped_start, cropped_of, crop_source}
use Rattle.ndarray_layout.specs.Descends.{Descends}
use Rattle.ndarray_layout.specs.SlicedView.{slice_of}
use Rattle.ndarray_layout.specs.View.{View, IsPlace, IsView}
use Rattle.ndarray_layout.proofs.CroppedAxes.{all_moved, cropped_sources, moved_starts_within, offset_as_sliced}
use Rattle.ndarray_layout.proofs.Laws.KeepsPlaces.{Descends-told}
use Rattle.ndarray_layout.proofs.Laws.Sources.{Descends-own_sources, HasOwnSources, at_least, filled-IsView, start_within}

-- ---- ranges that a shape has
-- lists of as many numbers, none of one less than the number of the other
pub fit_by_axes : (highs lows : List ℕ) → length lows ≡ length highs
    → ((axis : ℕ) → axis < length highs → get_or lows axis 0 ≤ get_or highs axis 0) → DifferencesFit highs lows
fit_by_axes [] [] e each = tt
fit_by_axes [] (low ∷ lows) e each = absurd (omega arith)
fit_by_axes (high ∷ highs) [] e each = absurd (omega arith)
fit_by_axes (high ∷ highs) (low ∷ lows) e each =
    (each 0 (omega arith), fit_by_axes highs lows (omega arith) (λ axis h. each (suc axis) (omega arith)))

-- a crop within the shape, axis by axis, is one that succeeds
pub ranges_by_axes : (shape starts ends : List ℕ) → length starts ≡ length shape → length ends ≡ length shape
    → ((axis : ℕ) → axis < length shape → (get_or starts axis 0 ≤ get_or ends axis 0) × (get_or ends axis 0 ≤ get_or shape axis 0))
    → RangesFit shape starts ends
ranges_by_axes shape starts ends e f each = record {
  in_order = fit_by_axes ends starts (e ∙ sym f) (λ axis h. (each axis (omega arith)).0);
  within = fit_by_axes shape ends f (λ axis h. (each axis h).1);
}

-- its shape: the length of each range
pub shape-cropped_of : (starts ends : List ℕ) (view : View) → (cropped_of starts ends view).shape ≡ differences ends starts
shape-cropped_of starts ends view = refl

-- ---- the view
module _ (starts ends : List ℕ) (view : View) (v : IsView view) (fit : RangesFit view.shape starts ends) where
  own : HasOwnSources (sums (moved_starts starts ends)) view.shape view.strides (offset_of view.strides (moved_starts starts ends))
      (differences ends starts) view.strides
  own = cropped_sources view.shape starts ends view.strides v.valid.same_count fit

  -- the starts that move add up
  pub moved_small : All (λ coordinate. coordinate ≤ limit) (moved_starts starts ends)
  moved_small = λ k d h. omega (
    arith,
    coordinate_le_nonzero_size (at_least 1 view.shape) (moved_starts starts ends) (moved_starts_within view.shape starts ends fit) k d h,
    (filled-IsView v).valid.size_fits,
  )

  pub moved_far : farthest_offset view.strides (moved_starts starts ends) ≤ limit
  moved_far = omega (
    arith,
    farthest_offset_le (at_least 1 view.shape) view.strides (moved_starts starts ends) (moved_starts_within view.shape starts ends fit),
    (filled-IsView v).valid.span_fits,
  )

  -- what is left begins at a place
  pub cropped_start_within : IsPlace (cropped_start starts ends view)
  cropped_start_within = start_within v own.sources

  pub start-cropped_of : pos (cropped_of starts ends view).start ≡ cropped_start starts ends view
  start-cropped_of = magnitude_from (cropped_start starts ends view) cropped_start_within.0

  -- it is a view of the same data, whose indices lie where their sources do
  pub Descends-cropped_of : Descends (crop_source starts) view (cropped_of starts ends view)
  Descends-cropped_of = Descends-told (Descends-own_sources v own start-cropped_of) (λ coordinates here.
      all_moved starts ends coordinates fit.in_order here)

  -- it has the shape and the start of the slice by the same ranges, also where no index is left
  pub shape_of_slice : (slice_of Strict (ranges_between starts ends) view).shape ≡ (cropped_of starts ends view).shape
  shape_of_slice =
      let within = length_all_zip (λ x y. y ≤ x) view.shape ends fit.within in
      let in_order = length_all_zip (λ x y. y ≤ x) ends starts fit.in_order in
      shape_between starts ends view.shape (omega arith) (omega arith)

  pub start_of_slice : (slice_of Strict (ranges_between starts ends) view).start ≡ (cropped_of starts ends view).start
  start_of_slice =
      ap (λ z. magnitude (pos view.start +ℤ z)) (sym (offset_as_sliced view.shape starts ends view.strides v.valid.same_count fit))
