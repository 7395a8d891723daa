-- The rows of a slice, moved by an index, have the places of the slice that it is then, and lie where the view does.
use Rattle.std.proofs.Common.{◌≡◌, ◌≢◌, ℕ, ◌<◌, ◌^◌, ℤ, ◌+ℤ◌, Bool, true, cond, None, Some, List, length, map, refl, sym, ap, subst, ◌∙◌}
use Rattle.std.specs.List.{All, AllPairs}
use Rattle.std.specs.Prelude.{◌==◌}
use Rattle.std.proofs.lemmas.List.{length-map}
use Rattle.ndarray_layout.specs.declared.Fit.TheVariants.{Strict}
use Rattle.ndarray_layout.specs.declared.Order.TheVariants.{RowMajor}
use Rattle.ndarray_layout.specs.declared.Row.{Row}
use Rattle.ndarray_layout.specs.declared.SliceInfoElem.{SliceInfoElem}
use Rattle.ndarray_layout.specs.declared.ErrorKind.TheVariants.{IncompatibleShape}
use Rattle.ndarray_layout.specs.Bounds.{IsInBounds}
use Rattle.ndarray_layout.specs.DistinctPlaces.{HasDistinctPlaces}
use Rattle.ndarray_layout.specs.Indices.{is_index}
use Rattle.ndarray_layout.specs.Rows.{rows_places}
use Rattle.ndarray_layout.specs.Size.{size}
use Rattle.ndarray_layout.specs.SlicedLayout.{sliced_shape}
use Rattle.ndarray_layout.specs.SliceFault.{argument_fault}
use Rattle.ndarray_layout.specs.SlicedView.{slice_of}
use Rattle.ndarray_layout.specs.View.{IsView, LiesWithin, View, view_places}
use Rattle.ndarray_layout.proofs.Laws.Rows.{places_fit}
use Rattle.ndarray_layout.proofs.Laws.SlicedView.{Descends-slice_of}
use Rattle.nd_lent.specs.LentRow.{places_of}
use Rattle.nd_lent.proofs.Laws.Lists.{All-of_map}
use Rattle.nd_lent.proofs.Laws.SlicePlaces.{slice_distinct}
use Rattle.nd_owned.specs.Moved.{Ready, moved, moves, set_fault}
use Rattle.nd_owned.specs.private.MovedRows.{CanMove, IsOffset, moved_rows}
use Rattle.nd_owned.specs.private.Written.{AreInBounds, HasWritten}
use Rattle.nd_owned.proofs.EvenRows.{slice_rows_in_bounds}
use Rattle.nd_owned.proofs.Moved.{moved_fits, moved_places}
use Rattle.nd_owned.proofs.MovedRows.{each_can_move, moved_rows_places}

-- the rows of a slice of a view, and an index that it can be moved by
pub record AreMoved (view : View) (elems : List SliceInfoElem) (rows : List Row) (index : List ℕ) (offset : ℤ) : Type 0 where
  pub is_view : IsView view
  pub fits : argument_fault Strict view.shape elems ≡ None
  pub places : rows_places rows ≡ view_places RowMajor (slice_of Strict elems view)
  pub some : All (λ row. 0 < row.len) rows
  pub here : is_index (moves elems view.shape) index ≡ true
  pub far : IsOffset (record { view = view; elems = elems }) index offset

module _ {view : View} {elems : List SliceInfoElem} {rows : List Row} {index : List ℕ} {offset : ℤ}
    (are : AreMoved view elems rows index offset) where
  pub fits_there : argument_fault Strict view.shape (moved view.shape index elems) ≡ None
  fits_there = moved_fits view elems index are.is_view are.fits are.here

  further : view_places RowMajor (slice_of Strict (moved view.shape index elems) view)
      ≡ map (λ place. place +ℤ offset) (rows_places rows)
  further = moved_places view elems index are.is_view are.fits are.here offset are.far
      ∙ ap (map (λ place. place +ℤ offset)) (sym are.places)

  pub can_move : All (CanMove offset) rows
  can_move =
      let old = (Descends-slice_of Strict elems view are.is_view are.fits).is_view in
      let new = (Descends-slice_of Strict (moved view.shape index elems) view are.is_view fits_there).is_view in
      each_can_move offset rows are.some
      (subst (All (IsInBounds (2 ^ 63))) (sym are.places) (places_fit RowMajor old))
      (All-of_map (λ place. place +ℤ offset) (rows_places rows) (IsInBounds (2 ^ 63))
      (subst (All (IsInBounds (2 ^ 63))) further (places_fit RowMajor new)))

  pub places_there : rows_places (moved_rows offset rows)
      ≡ view_places RowMajor (slice_of Strict (moved view.shape index elems) view)
  places_there = moved_rows_places offset rows can_move ∙ sym further

  pub in_bounds_there : {count : ℕ} → LiesWithin count view
      → All (λ row. AreInBounds count (places_of row)) (moved_rows offset rows)
  in_bounds_there within =
      slice_rows_in_bounds view (moved view.shape index elems) (moved_rows offset rows) are.is_view within
      fits_there places_there

  pub as_many_there : length (rows_places (moved_rows offset rows)) ≡ length (rows_places rows)
  as_many_there = ap length (places_there ∙ further)
      ∙ length-map (rows_places rows) (λ place. place +ℤ offset)

-- what is written there, where the layout of an array has distinct places
pub written_there : {T : Type 0} {view own : View} {elems : List SliceInfoElem} {rows : List Row} {index : List ℕ} {offset : ℤ}
    (items old new : List T) → AreMoved view elems rows index offset → view ≡ own → HasDistinctPlaces own
    → (AllPairs (λ one other. one ≢ other) (rows_places (moved_rows offset rows))
    → HasWritten (rows_places (moved_rows offset rows)) items old new)
    → HasWritten (view_places RowMajor (slice_of Strict (moved view.shape index elems) own)) items old new
written_there {view = view} {elems = elems} {index = index} items old new are same distinct left =
    let slice = moved view.shape index elems in
    let apart = slice_distinct view slice are.is_view (subst HasDistinctPlaces (sym same) distinct) (fits_there are) in
    let made = subst (λ places. AllPairs (λ one other. one ≢ other) places → HasWritten places items old new)
    (places_there are) left apart in
    subst (λ one. HasWritten (view_places RowMajor (slice_of Strict slice one)) items old new) same made

-- the error of items that are written there
pub set_fault_there : (ready : Ready) (index : List ℕ) (count : ℕ) {have : Bool}
    → is_index (moves ready.elems ready.view.shape) index ≡ true
    → (count == size (sliced_shape Strict ready.elems ready.view.shape)) ≡ have
    → set_fault ready index count ≡ cond have None (Some IncompatibleShape)
set_fault_there ready index count here same = rw (here, same) refl
