-- Row i is 2 * i before the last row, and column j is column j, by the laws of what a slice picks.
use Rattle.std.proofs.Common.{◌≡◌, ◌-◌, ◌*◌, ◌<◌, pos, negsuc, None, List, [], ◌∷◌, ℕ, length, true, false, refl, ap, ◌∙◌}
use Rattle.std.proofs.Common.{arith}
use Rattle.std.specs.Prelude.{IsTrue, nat_lt, slice_index}
use Rattle.std.proofs.lemmas.Bool.{and_parts, false≢true, ltb-true}
use Rattle.ndarray_layout.specs.declared.Fit.TheVariants.{Strict}
use Rattle.ndarray_layout.specs.declared.SliceInfoElem.{SliceInfoElem}
use Rattle.ndarray_layout.specs.declared.SliceInfoElem.TheVariants as elem
use Rattle.ndarray_layout.specs.Indices.{is_index}
use Rattle.ndarray_layout.specs.Picks.{picks}
use Rattle.ndarray_layout.specs.SliceBounds.{slice_with}
use Rattle.ndarray_layout.specs.Selected.{selected}
use Rattle.ndarray_layout.specs.SlicedLayout.{sliced_shape}
use Rattle.nd_owned.specs.ArrayOfStep.{ShowsItemsOf}
use Rattle.nd_owned.specs.Owned.{ArrayValue, item_at}
use Rattle.ndarray_layout.specs.SlicedView.{slice_of}
use Rattle.ndarray_layout.proofs.Laws.Between.{pick_down}
use Rattle.ndarray_layout.proofs.Laws.UnitStep.{length-picks_by_one, pick_of_all}
use Rattle.example_callers.proofs.slices.alternate_rows.Goals as goal

-- every other row from the last one up, and all columns
abbrev part : List SliceInfoElem
part = elem.Slice (pos 0) None (negsuc 1) ∷ elem.Slice (pos 0) None (pos 1) ∷ []

source : (shape : List ℕ) (i j : ℕ) → IsTrue (is_index (sliced_shape Strict part shape) (i ∷ j ∷ []))
    → selected Strict part shape (i ∷ j ∷ []) ≡ (slice_index shape 0 - 1 - 2 * i) ∷ j ∷ []
source [] i j here = absurd (false≢true here)
source (rows ∷ []) i j here =
    absurd (false≢true (and_parts (nat_lt i (length (picks Strict rows (slice_with (pos 0) None (negsuc 1))))) false here).1)
source (rows ∷ columns ∷ more) i j here =
    let up = picks Strict rows (slice_with (pos 0) None (negsuc 1)) in
    let all = picks Strict columns (slice_with (pos 0) None (pos 1)) in
    let parts = and_parts (nat_lt i (length up)) (is_index (length all ∷ []) (j ∷ [])) here in
    let below = and_parts (nat_lt j (length all)) true parts.1 in
    let row : slice_index up i ≡ rows - 1 - 2 * i = omega (arith, pick_down 1 0 rows i (ltb-true i (length up) parts.0)) in
    let in_bounds : j < columns = omega (arith, ltb-true j (length all) below.0, length-picks_by_one Strict columns (pos 0) None) in
    let column = pick_of_all Strict columns j in_bounds in
    cc

module _ (picture rows : ArrayValue ℕ) (elems : List SliceInfoElem) (are : elems ≡ part) where
  shown : rows.view ≡ slice_of Strict elems picture.view → ShowsItemsOf (selected Strict elems picture.view.shape) picture rows
      → (i j : ℕ) → IsTrue (is_index rows.view.shape (i ∷ j ∷ []))
      → item_at rows (i ∷ j ∷ []) ≡ item_at picture ((slice_index picture.view.shape 0 - 1 - 2 * i) ∷ j ∷ [])
  shown is shows i j here =
      let of_part = rw (is, are) at here in
      (shows.shown (i ∷ j ∷ []) here).1
      ∙ ap (λ all. item_at picture (selected Strict all picture.view.shape (i ∷ j ∷ []))) are
      ∙ ap (item_at picture) (source picture.view.shape i j of_part)

pub returns-clause-pixels : goal.returns-clause-pixels
returns-clause-pixels c =
    let are : (c.into.result ∷ c.into-2.result ∷ []) ≡ part = rw (c.into.ensures, c.into-2.ensures, c.new.ensures) refl in
    shown c.args.picture.now c.in_ok-rows.rows _ are c.in_ok-rows.ensures.array.view c.in_ok-rows.ensures.array.items
