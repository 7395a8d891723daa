-- Slices of a part whose parts are still to come: that of the first one, and what it leaves.
use Rattle.std.proofs.Common.{◌≡◌, ℕ, ◌+◌, ◌<◌, Bool, Option, Some, None, Result, Ok, Err, List, ◌∷◌, length, get_or, map, drop, Bor}
use Rattle.std.proofs.Common.{sym, subst, ap, ◌∙◌}
use Rattle.std.specs.List.{All}
use Rattle.std.specs.Prelude.{◌==◌, if◌then◌else◌}
use Rattle.std.specs.Result.{IsErrAnd}
use Rattle.std.proofs.lemmas.List.{drop-drop}
use Rattle.std.proofs.lemmas.List.Elements.{All-head}
use Rattle.ndarray_layout.specs.declared.ErrorKind.TheVariants.{IncompatibleShape}
use Rattle.ndarray_layout.specs.declared.LayoutError.{LayoutError}
use Rattle.ndarray_layout.specs.declared.LayoutError.TheVariants.{Memory, Shape}
use Rattle.ndarray_layout.specs.declared.Fit.TheVariants.{Strict}
use Rattle.ndarray_layout.specs.declared.SliceInfoElem.{SliceInfoElem}
use Rattle.ndarray_layout.specs.Descends.{Descends}
use Rattle.ndarray_layout.specs.IntersectingPair.{slices_fault}
use Rattle.ndarray_layout.specs.Memory.{NeedsNoMemory}
use Rattle.ndarray_layout.specs.ShapeFault.{shape_fault}
use Rattle.ndarray_layout.specs.SliceFault.{argument_fault, out_count}
use Rattle.ndarray_layout.specs.SlicedView.{slice_of, view_slice_fault}
use Rattle.ndarray_layout.specs.View.{View}
use Rattle.nd_access.specs.Cells.{without}
use Rattle.nd_access.specs.Items.{ArrayValue}
use Rattle.nd_access.specs.Part.{IsPart, marks_of}
use Rattle.nd_lent.specs.SlicePartsLeft.{next_slice_fault}
use Rattle.nd_lent.specs.Slices.{AreApartInPlace, slice_array, view_slices_fault}
use Rattle.nd_lent.specs.private.SlicesLeft.{HasSlices}
use Rattle.nd_lent.proofs.Laws.Faults.{both_none, view_slices_fit}
use Rattle.nd_access.proofs.Laws.Lists.{next}
use Rattle.nd_lent.proofs.SlicesApart.{AreLeft, left_at_first, left_by_one, next_marked}

pub to_come : {marks : List Bool} {view : View} {slices : List (List SliceInfoElem)} → IsPart marks view
    → view_slices_fault Strict None view.shape slices ≡ None → AreApartInPlace view slices → HasSlices marks view slices
to_come {view = view} {slices} part fit apart =
    let fits = view_slices_fit None view.shape slices fit in
    let left = left_at_first slices part fits apart in
    record { is_view = part.is_view; distinct = part.distinct; fits = fits; marked = left.marked; apart = left.apart }

-- the error of the first one's part is that of its count of axes
pub fault_of_count : (count : Option ℕ) (shape : List ℕ) (slice : List SliceInfoElem) (slices : List (List SliceInfoElem))
    → argument_fault Strict shape slice ≡ None → view_slice_fault Strict count shape slice ≡ next_slice_fault count (slice ∷ slices)
fault_of_count None shape slice slices fits = fits
fault_of_count (Some count) shape slice slices fits =
    ap (λ fault. if out_count slice == count then fault else Some IncompatibleShape) fits

module _ {marks : List Bool} {view : View} {left others : List (List SliceInfoElem)} {slice : List SliceInfoElem}
    (has : HasSlices marks view left) (next : left ≡ slice ∷ others) where
  both_fit : (argument_fault Strict view.shape slice ≡ None) × (slices_fault Strict view.shape others ≡ None)
  both_fit = both_none (argument_fault Strict view.shape slice) (slices_fault Strict view.shape others)
      (subst (λ slices. slices_fault Strict view.shape slices ≡ None) next has.fits)

  pub fault_of_next : (count : Option ℕ) → view_slice_fault Strict count view.shape slice ≡ next_slice_fault count left
  fault_of_next count = fault_of_count count view.shape slice others both_fit.0 ∙ ap (next_slice_fault count) (sym next)

  module _ {picked : View} (this : picked ≡ slice_of Strict slice view) where
    are_left : AreLeft marks view left
    are_left = record { marked = has.marked; apart = has.apart }

    -- the first one's part, and what it leaves
    pub first_part : {source : List ℕ → List ℕ} → Descends source view picked → IsPart marks picked
    first_part kept =
        record { is_view = kept.is_view; marked = next_marked are_left next this; distinct = kept.distinct has.distinct }

    pub others_to_come : {rest : List Bool} → rest ≡ without (marks_of (length marks) picked) marks → HasSlices rest view others
    others_to_come same =
        let after = left_by_one are_left next this same in
        record { is_view = has.is_view; distinct = has.distinct; fits = both_fit.1; marked = after.marked; apart = after.apart }

-- an error that is handed on has the same fault
pub same_fault : {X : Type 0} (Y : Type 0) (result : Result X LayoutError) (error : LayoutError) → IsErrAnd result (λ e. e ≡ error)
    → shape_fault result ≡ shape_fault {X = Y} (Err error)
same_fault Y (Ok x) error is = absurd is
same_fault Y (Err (Memory e)) error is = ap (λ e. shape_fault {X = Y} (Err e)) is
same_fault Y (Err (Shape kind)) error is = ap (λ e. shape_fault {X = Y} (Err e)) is

-- the first slice takes no memory where none does
pub first_needs : {slice : List SliceInfoElem} {left others : List (List SliceInfoElem)} → left ≡ slice ∷ others → (count : Option ℕ)
    → All (λ one. NeedsNoMemory count (out_count one)) left → NeedsNoMemory count (out_count slice)
first_needs {slice} {others = others} from count all =
    let needs = λ (one : List SliceInfoElem). NeedsNoMemory count (out_count one) in
    All-head needs slice others (subst (All needs) from all)

-- ---- slices that are borrowed
module _ (slices : List (Bor (List SliceInfoElem))) (i : ℕ) where
  pub next_slice : {slice : Bor (List SliceInfoElem)} → i < length slices → slice ≡ get_or slices i slice
      → drop i (map (λ one. one.now) slices) ≡ slice.now ∷ drop (i + 1) (map (λ one. one.now) slices)
  next_slice below is = next (λ one. one.now) slices i below is

  pub one_fewer : drop (i + 1) (map (λ one. one.now) slices) ≡ drop 1 (drop i (map (λ one. one.now) slices))
  one_fewer = sym (drop-drop 1 i (map (λ one. one.now) slices))

-- the array that is made is that of the first slice
pub made_first : {T : Type 0} (items : List T) {new : List T} (view : View) {slice : List SliceInfoElem}
    {left others : List (List SliceInfoElem)} {array : ArrayValue T} → left ≡ slice ∷ others → array ≡ slice_array items view slice
    → new ≡ items → map (slice_array items view) left ≡ array ∷ map (slice_array new view) others
made_first items view {others = others} {array} from made same =
    ap (map (slice_array items view)) from
    ∙ ap (λ a. a ∷ map (slice_array items view) others) (sym made)
    ∙ ap (λ xs. array ∷ map (slice_array xs view) others) (sym same)
