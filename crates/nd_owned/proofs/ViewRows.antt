-- The rows of a view: where they lie, and what is read and written of the first of those that are left.
use Rattle.std.proofs.Common.{◌≡◌, ℕ, ◌+◌, ◌^◌, Some, Option, List, ◌∷◌, ◌++◌, length, map, append_assoc}
use Rattle.std.proofs.Common.{sym, ap, subst, ◌∙◌, arith}
use Rattle.std.specs.List.{All}
use Rattle.std.proofs.lemmas.List.{length-append, map-append}
use Rattle.ndarray_layout.specs.declared.Order.TheVariants.{RowMajor}
use Rattle.ndarray_layout.specs.declared.Row.{Row}
use Rattle.ndarray_layout.specs.Bounds.{IsInBounds}
use Rattle.ndarray_layout.specs.Rows.{rows_places}
use Rattle.ndarray_layout.specs.View.{View, IsView, LiesWithin, view_places}
use Rattle.ndarray_layout.proofs.Laws.Rows.{All-rows_places, length-row_places, places_fit}
use Rattle.ndarray_layout.proofs.Laws.View.{places_lie_within}
use Rattle.nd_lent.specs.Items.{item_at_place}
use Rattle.nd_owned.specs.private.Written.{AreInBounds}
use Rattle.nd_owned.proofs.Placed.{AreBoth}
use Rattle.nd_lent.specs.LentRow.{places_of}

-- all places lie where the view does
pub places_in_bounds : {count : ℕ} {view : View} → IsView view → LiesWithin count view → AreInBounds count (view_places RowMajor view)
places_in_bounds {count} {view} v within = record {
  within = places_lie_within count RowMajor view within;
  fit = places_fit RowMajor v;
}

-- and so do those of each row, where the rows have these places
pub rows_in_bounds : {count : ℕ} (view : View) (rows : List Row) → rows_places rows ≡ view_places RowMajor view → IsView view
    → LiesWithin count view → All (λ row. AreInBounds count (places_of row)) rows
rows_in_bounds {count} view rows are v within =
    let all = places_in_bounds v within in
    let here = All-rows_places (IsInBounds count) rows (subst (All (IsInBounds count)) (sym are) all.within) in
    let fit = All-rows_places (IsInBounds (2 ^ 63)) rows (subst (All (IsInBounds (2 ^ 63))) (sym are) all.fit) in
    λ k d under. record { within = here k d under; fit = fit k d under }

-- ---- the first of the rows that are left
module _ {row : Row} {left others : List Row} (first : left ≡ row ∷ others) where
  pub first_and_others : AreBoth (rows_places left) (places_of row) (rows_places others)
  first_and_others = record { are = ap rows_places first }

  pub length_left : length (rows_places left) ≡ row.len + length (rows_places others)
  length_left = omega (
    arith,
    ap length first_and_others.are,
    length-append (places_of row) (rows_places others),
    length-row_places row.start row.stride row.len,
  )

  -- its items are read, and those of the others are left
  pub read_first : {X : Type 0} (stored old new : List X) {all : List (Option X)}
      → map Some new ≡ map Some old ++ map (item_at_place stored) (places_of row)
      → map Some old ++ map (item_at_place stored) (rows_places left) ≡ all
      → map Some new ++ map (item_at_place stored) (rows_places others) ≡ all
  read_first stored old new added so_far =
      let got = item_at_place stored in
      ap (λ items. items ++ map got (rows_places others)) added
      ∙ append_assoc (map Some old) (map got (places_of row)) (map got (rows_places others))
      ∙ ap (λ items. map Some old ++ items)
      (sym (map-append got (places_of row) (rows_places others)) ∙ ap (map got) (sym first_and_others.are))
      ∙ so_far
