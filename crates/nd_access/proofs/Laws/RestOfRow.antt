-- What is left of a row, of which some items were taken at either end, is a row.
use Rattle.std.proofs.Common.{◌≡◌, ℕ, ◌+◌, ◌-◌, ◌<◌, ◌≤◌, ◌^◌, ℤ, pos, negsuc, ◌+ℤ◌, ◌*ℤ◌, List, length}
use Rattle.std.proofs.Common.{map, take, drop, ap, subst, ◌∙◌, arith}
use Rattle.std.specs.List.{All}
use Rattle.std.proofs.lemmas.Int.{ints}
use Rattle.std.proofs.lemmas.List.{drop-map, get_or-drop, get_or-take, length-drop, length-take, take-map}
use Rattle.std.proofs.lemmas.List.Elements.{All-drop, All-take}
use Rattle.std.proofs.lemmas.List.FromFn.{fill_by_all}
use Rattle.ndarray_layout.specs.declared.Order.TheVariants.{RowMajor}
use Rattle.ndarray_layout.specs.declared.Row.{Row}
use Rattle.ndarray_layout.specs.Bounds.{IsInBounds}
use Rattle.ndarray_layout.specs.Rows.{row_places, row_view}
use Rattle.ndarray_layout.specs.View.{IsView}
use Rattle.ndarray_layout.proofs.Laws.NonzeroSize.{size_le_nonzero_size}
use Rattle.ndarray_layout.proofs.Laws.Rows.{get_or-row_places, length-row_places, places-row_view, places_fit}
use Rattle.ndarray_layout.proofs.Laws.View.{length-view_places}
use Rattle.nd_access.specs.Items.{item_at_place}
use Rattle.nd_access.specs.LentRow.{HasRow, row_items, row_of}

step_after : (start there : ℕ) (stride : ℤ) (begun k : ℕ) → pos there ≡ pos start +ℤ (pos begun *ℤ stride)
    → pos start +ℤ (pos (begun + k) *ℤ stride) ≡ pos there +ℤ (pos k *ℤ stride)
step_after start there (pos s) begun k at = omega (arith, ints, at)
step_after start there (negsuc s) begun k at = omega (arith, ints, at)

pub places_left : (start there : ℕ) (stride : ℤ) (len begun end : ℕ) → begun ≤ end → end ≤ len
    → pos there ≡ pos start +ℤ (pos begun *ℤ stride)
    → take (end - begun) (drop begun (row_places start stride len)) ≡ row_places there stride (end - begun)
places_left start there stride len begun end ordered within at =
    let places = row_places start stride len in
    let long = length-row_places start stride len in
    fill_by_all (λ i. pos there +ℤ (pos i *ℤ stride)) (take (end - begun) (drop begun places)) (end - begun) (pos 0)
    (omega (arith, long, length-take (end - begun) (drop begun places), length-drop begun places))
    (λ k below.
    get_or-take (end - begun) (drop begun places) k (pos 0) below
    ∙ get_or-drop begun places k (pos 0)
    ∙ get_or-row_places start stride len (begun + k) (pos 0) (omega (arith, below))
    ∙ step_after start there stride begun k at)

module _ {T : Type 0} (items : List T) (row : Row) (begun end there : ℕ) (ordered : begun ≤ end) (within : end ≤ row.len)
    (at : pos there ≡ pos row.start +ℤ (pos begun *ℤ row.stride)) where
  abbrev left : Row
  left = record { start = there; stride = row.stride; len = end - begun }

  pub of_left : (P : ℤ → Type 0) → All P (row_places row.start row.stride row.len) → All P (row_places there row.stride (end - begun))
  of_left P all = subst (All P) (places_left row.start there row.stride row.len begun end ordered within at)
      (All-take P (end - begun) (drop begun (row_places row.start row.stride row.len))
      (All-drop P begun (row_places row.start row.stride row.len) all))

  pub left_has_row : begun < end → HasRow (length items) row → HasRow (length items) left
  left_has_row some has = record {
    some = omega arith;
    short = omega (arith, has.short);
    within = of_left (IsInBounds (length items)) has.within;
    fit = of_left (IsInBounds (2 ^ 63)) has.fit;
  }

  pub items_left : take (end - begun) (drop begun (row_items (row_of items row))) ≡ row_items (row_of items left)
  items_left =
      ap (take (end - begun)) (drop-map (item_at_place items) begun (row_places row.start row.stride row.len))
      ∙ take-map (item_at_place items) (end - begun) (drop begun (row_places row.start row.stride row.len))
      ∙ ap (map (item_at_place items)) (places_left row.start there row.stride row.len begun end ordered within at)

-- a row that is a view has an item at each of its places
pub row_that_is_view : {count : ℕ} (row : Row) → 0 < row.len → IsView (row_view row)
    → All (IsInBounds count) (row_places row.start row.stride row.len) → HasRow count row
row_that_is_view row some is within =
    let are = places-row_view row some is in
    record {
      some = some;
      short = omega (
        arith,
        ap length are,
        length-row_places row.start row.stride row.len,
        length-view_places RowMajor (row_view row),
        size_le_nonzero_size (row_view row).shape,
        is.valid.size_fits,
      );
      within = within;
      fit = subst (All (IsInBounds (2 ^ 63))) are (places_fit RowMajor is);
    }
