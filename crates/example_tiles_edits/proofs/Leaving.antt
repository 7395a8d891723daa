-- What edits that fit leave of a view: the slices fit it, and each position has the place of its source.
use Rattle.std.proofs.Common.{◌≡◌, ℕ, ◌<◌, true, Some, None, List, [], ◌∷◌, refl, sym, ap, ◌∙◌, subst}
use Rattle.std.proofs.lemmas.Bool.{and_parts, lt-ltb}
use Rattle.ndarray_layout.specs.declared.Fit.TheVariants.{Strict}
use Rattle.ndarray_layout.specs.declared.Slice.{Slice}
use Rattle.ndarray_layout.specs.declared.SliceInfoElem.{SliceInfoElem}
use Rattle.ndarray_layout.specs.declared.SliceInfoElem.TheVariants as elem
use Rattle.ndarray_layout.specs.Descends.{Descends}
use Rattle.ndarray_layout.specs.Indices.{is_index}
use Rattle.ndarray_layout.specs.Selected.{selected}
use Rattle.ndarray_layout.specs.SlicedLayout.{sliced_shape}
use Rattle.ndarray_layout.specs.SlicedView.{slice_of, view_slice_fault}
use Rattle.ndarray_layout.specs.View.{View, place_at}
use Rattle.ndarray_layout.proofs.Laws.Picks.{pick_below}
use Rattle.ndarray_layout.proofs.Laws.AxisFault.{no_fault_of_fits}
use Rattle.example_tiles_edits.specs.declared.picture.Extent.{Extent}
use Rattle.example_tiles_edits.specs.Picture.{IsWithin, Position}
use Rattle.example_tiles_edits.specs.declared.edit.Edit.{Edit}
use Rattle.example_tiles_edits.specs.declared.edit.Edit.TheVariants.{Crop, FlipRows, FlipColumns, Every}
use Rattle.example_tiles_edits.specs.Edits.{extent_after, fits, source, source_of}
use Rattle.example_tiles_edits.specs.Views.{Leave, elements_of, index_of, shape_of}
use Rattle.example_tiles_edits.proofs.Axes.{IsPick, all, by_step, of_span, turned}

-- a range of an axis, as an element
abbrev element_of : Slice → SliceInfoElem
element_of s = elem.Slice s.start s.end s.step

-- ---- what two slices leave of two axes
module _ {rows columns : ℕ} {one other : Slice} {r c : ℕ} {f g : ℕ → ℕ} (first : IsPick rows one r f)
    (second : IsPick columns other c g) where
  not_at_fault : view_slice_fault Strict (Some 2) (rows ∷ columns ∷ []) (element_of one ∷ element_of other ∷ []) ≡ None
  not_at_fault = rw (no_fault_of_fits Strict rows one first.fits, no_fault_of_fits Strict columns other second.fits) refl

  shape_left : sliced_shape Strict (element_of one ∷ element_of other ∷ []) (rows ∷ columns ∷ []) ≡ r ∷ c ∷ []
  shape_left = rw (first.count, second.count) refl

  stands_for : (i j : ℕ) → i < r → j < c
      → selected Strict (element_of one ∷ element_of other ∷ []) (rows ∷ columns ∷ []) (i ∷ j ∷ []) ≡ f i ∷ g j ∷ []
  stands_for i j below right = rw (first.coordinate i below, second.coordinate j right) refl

pick_within : {len : ℕ} {slice : Slice} {count : ℕ} {f : ℕ → ℕ} (j : ℕ) → IsPick len slice count f → j < count → f j < len
pick_within {len} {slice} j pick below =
    subst (λ n. n < len) (pick.coordinate j below) (pick_below Strict len slice j pick.fits (subst (λ n. j < n) (sym pick.count) below))

-- ---- what an edit that fits leaves of an extent
pub record IsSlice (extent : Extent) (edit : Edit) (elements : List SliceInfoElem) : Type 0 where
  pub none : view_slice_fault Strict (Some 2) (shape_of extent) elements ≡ None
  pub shape : sliced_shape Strict elements (shape_of extent) ≡ shape_of (extent_after extent edit)
  pub sources : (at : Position) → IsWithin (extent_after extent edit) at
      → selected Strict elements (shape_of extent) (index_of at) ≡ index_of (source extent edit at)
  pub within : (at : Position) → IsWithin (extent_after extent edit) at → IsWithin extent (source extent edit at)

of_picks : {one other : Slice} {f g : ℕ → ℕ} (extent : Extent) (edit : Edit)
    → IsPick extent.rows one (extent_after extent edit).rows f → IsPick extent.columns other (extent_after extent edit).columns g
    → ((at : Position) → (f at.row ≡ (source extent edit at).row) × (g at.column ≡ (source extent edit at).column))
    → IsSlice extent edit (element_of one ∷ element_of other ∷ [])
of_picks extent edit first second from = record {
  none = not_at_fault first second;
  shape = shape_left first second;
  sources = λ at within. stands_for first second at.row at.column within.row_below within.column_below
      ∙ rw ((from at).0, (from at).1) refl;
  within = λ at within. record {
    row_below = subst (λ n. n < extent.rows) (from at).0 (pick_within at.row first within.row_below);
    column_below = subst (λ n. n < extent.columns) (from at).1 (pick_within at.column second within.column_below);
  };
}

pub is_slice : (extent : Extent) (edit : Edit) → fits extent edit ≡ true → IsSlice extent edit (elements_of edit)
is_slice extent (Crop rows columns) fit =
    let both = and_parts _ _ fit in
    let first = and_parts _ _ both.0 in
    let second = and_parts _ _ both.1 in
    of_picks extent (Crop rows columns) (of_span extent.rows rows.start rows.end first.0 first.1)
    (of_span extent.columns columns.start columns.end second.0 second.1) (λ at. (refl, refl))
is_slice extent FlipRows fit = of_picks extent FlipRows (turned extent.rows) (all extent.columns) (λ at. (refl, refl))
is_slice extent FlipColumns fit = of_picks extent FlipColumns (all extent.rows) (turned extent.columns) (λ at. (refl, refl))
is_slice extent (Every count) fit =
    of_picks extent (Every count) (by_step extent.rows count fit) (by_step extent.columns count fit) (λ at. (refl, refl))

-- ---- of a view of the extent
pub is_index_of : (extent : Extent) (at : Position) → IsWithin extent at → is_index (shape_of extent) (index_of at) ≡ true
is_index_of extent at within = rw (lt-ltb at.row extent.rows within.row_below, lt-ltb at.column extent.columns within.column_below) refl

-- where an edit fits, what its slice leaves is what it says
pub leave_one : (extent : Extent) (edit : Edit) {elements : List SliceInfoElem} {view after : View} → fits extent edit ≡ true
    → elements ≡ elements_of edit → view.shape ≡ shape_of extent → after ≡ slice_of Strict elements view
    → Descends (selected Strict elements view.shape) view after → Leave (edit ∷ []) extent view (extent_after extent edit) after
leave_one extent edit {elements} {view} {after} fit are same is descends =
    let slice = subst (IsSlice extent edit) (sym are) (is_slice extent edit fit) in
    let shape : after.shape ≡ shape_of (extent_after extent edit) =
    ap (λ (v : View). v.shape) is ∙ ap (sliced_shape Strict elements) same ∙ slice.shape in
    record {
      is_left = refl;
      shape = shape;
      within = slice.within;
      places = λ at within. (
          let here = ap (λ s. is_index s (index_of at)) shape ∙ is_index_of (extent_after extent edit) at within in
          (descends.places (index_of at) here).1
          ∙ ap (place_at view) (ap (λ s. selected Strict elements s (index_of at)) same ∙ slice.sources at within));
    }

-- ---- of one edit, and then of those after it
pub leave_none : (extent : Extent) (view : View) → view.shape ≡ shape_of extent → Leave [] extent view extent view
leave_none extent view same = record { is_left = refl; shape = same; within = λ at within. within; places = λ at within. refl }

pub leave_more : {edit : Edit} {edits : List Edit} {extent between left : Extent} {view next after : View}
    → Leave (edit ∷ []) extent view between next → Leave edits between next left after → Leave (edit ∷ edits) extent view left after
leave_more {edit} {edits} {extent} {between} {left} {view} {next} {after} one more =
    let first = subst (λ e. Leave (edit ∷ []) extent view e next) one.is_left one in
    let rest = subst (λ e. Leave edits e next left after) one.is_left more in
    let from = source_of edits (extent_after extent edit) in
    record {
      is_left = rest.is_left;
      shape = rest.shape;
      within = λ at within. first.within (from at) (rest.within at within);
      places = λ at within. rest.places at within ∙ first.places (from at) (rest.within at within);
    }
