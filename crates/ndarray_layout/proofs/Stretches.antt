-- Places that follow one another: without the first, without the last, and without several.
use Rattle.std.proofs.Common.{◌≡◌, ℕ, suc, ◌+◌, ◌-◌, ◌<◌, ◌≤◌, pos, ◌+ℤ◌, ◌*ℤ◌, [], ◌∷◌, ◌++◌}
use Rattle.std.proofs.Common.{drop, length, min, take, sym, ap, ◌∙◌, arith}
use Rattle.std.proofs.lemmas.Int.{ints}
use Rattle.ndarray_layout.specs.PlacesLeft.{IsStretchLeft, stretch_places}
use Rattle.ndarray_layout.specs.Rows.{row_places}
use Rattle.ndarray_layout.specs.View.{IsView}
use Rattle.ndarray_layout.proofs.ByRows.{row_from}
use Rattle.ndarray_layout.proofs.LaterPlaces.{row_drop}
use Rattle.ndarray_layout.proofs.BothEnds.{row_take}
use Rattle.ndarray_layout.proofs.NumberedRows.{fewer}
use Rattle.ndarray_layout.proofs.RowSteps.{row_first}
use Rattle.ndarray_layout.proofs.RowViews.{between}
use Rattle.ndarray_layout.proofs.Laws.Rows.{length-row_places, row_more}

module _ {start end : ℕ} (l : IsStretchLeft start end) where
  pub length-stretch : length (stretch_places start end) ≡ end - start
  length-stretch = length-row_places start (pos 1) (end - start)

  module _ (less : start < end) where
    pub first_place : stretch_places start end ≡ pos start ∷ stretch_places (start + 1) end
    first_place =
        let more : end - start ≡ suc (end - (start + 1)) = omega (arith, less) in
        let on : pos start +ℤ pos 1 ≡ pos (start + 1) = omega (arith, ints) in
        ap (row_from (pos start) (pos 1)) more
        ∙ row_first (pos start) (pos 1) (end - (start + 1))
        ∙ ap (λ z. pos start ∷ row_from z (pos 1) (end - (start + 1))) on

    pub stretch_is_view : IsView (record { start = start; shape = (end - start) ∷ []; strides = pos 1 ∷ [] })
    stretch_is_view =
        let at : pos start +ℤ (pos (end - start - 1) *ℤ pos 1) ≡ pos (end - 1) = omega (arith, ints, less) in
        between start (pos 1) (end - start) (omega (arith, less)) l.few (omega (arith, less, l.fits))
        (omega (arith, ints, at), omega (arith, ints, at, l.fits))

    pub last_place : stretch_places start end ≡ stretch_places start (end - 1) ++ pos (end - 1) ∷ []
    last_place =
        let more : end - start ≡ end - 1 - start + 1 = omega (arith, less) in
        let at : pos start +ℤ (pos (end - 1 - start) *ℤ pos 1) ≡ pos (end - 1) = omega (arith, ints, less) in
        ap (row_places start (pos 1)) more
        ∙ row_more start (pos 1) (end - 1 - start)
        ∙ ap (λ z. stretch_places start (end - 1) ++ z ∷ []) at

  module _ (count : ℕ) {m : ℕ} (least : m ≡ min count (end - start)) where
    few : (drop m (stretch_places start end) ≡ drop count (stretch_places start end))
        × (take (end - start - m) (stretch_places start end) ≡ take (end - start - count) (stretch_places start end)) × (m ≤ end - start)
    few = fewer count (end - start) (stretch_places start end) length-stretch least

    pub places_skipped : stretch_places (start + m) end ≡ drop count (stretch_places start end)
    places_skipped =
        let at : pos start +ℤ (pos m *ℤ pos 1) ≡ pos (start + m) = omega (arith, ints) in
        let left : end - start - m ≡ end - (start + m) = omega arith in
        sym (
        sym few.0
        ∙ row_drop m (end - start) (pos start) (pos 1) few.2
        ∙ ap (λ z. row_from z (pos 1) (end - start - m)) at
        ∙ ap (row_places (start + m) (pos 1)) left
        )

    pub places_cut : stretch_places start (end - m) ≡ take (length (stretch_places start end) - count) (stretch_places start end)
    places_cut =
        let left : end - m - start ≡ end - start - m = omega arith in
        let within : end - start - m ≤ end - start = omega arith in
        ap (row_places start (pos 1)) left
        ∙ sym (row_take (end - start - m) (end - start) (pos start) (pos 1) within)
        ∙ few.1
        ∙ ap (λ n. take (n - count) (stretch_places start end)) (sym length-stretch)
