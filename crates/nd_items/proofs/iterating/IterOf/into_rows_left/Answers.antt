-- The rows that are left have the items at the places that are left.
use Rattle.std.proofs.Common.{◌≡◌, ℕ, ◌<◌, ◌++◌, Bool, Option, Some, None, List, [], ◌∷◌, map, refl, sym, ap, ◌∙◌}
use Rattle.std.specs.Prelude.{IfSome}
use Rattle.std.specs.List.{All}
use Rattle.std.specs.Option.{option_map}
use Rattle.std.proofs.lemmas.List.{map-append}
use Rattle.std.proofs.lemmas.List.Elements.{All-cons, All-head, All-nil, All-tail}
use Rattle.ndarray_layout.specs.declared.Row.{Row}
use Rattle.ndarray_layout.specs.PlacesLeft.{places_of_row}
use Rattle.ndarray_layout.specs.Rows.{row_view, rows_places}
use Rattle.ndarray_layout.specs.View.{IsView}
use Rattle.nd_access.specs.Items.{item_at_place}
use Rattle.nd_access.specs.LentRow.{HasRow, items_of_row, places_of, row_of, rows_items}
use Rattle.nd_access.specs.Read.{AreRead, AreRowsRead, IsRowRead}
use Rattle.nd_access.proofs.Laws.Read.{back_read, front_read, row_of_places_read}
use Rattle.nd_access.proofs.Laws.RowsLent.{rows_items-row_of}
use Rattle.nd_items.proofs.iterating.IterOf.into_rows_left.Goals as goal

module _ {marks : List Bool} {count : ℕ} where
  row_read : (row : Option Row) → IfSome row (λ row. (0 < row.len) × IsView (row_view row)) → AreRead marks count (places_of_row row)
      → IfSome row (IsRowRead marks count)
  row_read None is read = tt
  row_read (Some row) is read = row_of_places_read row is.0 is.1 read

  rows_read : (rows : List Row) → All (λ row. 0 < row.len) rows → All (λ row. IsView (row_view row)) rows
      → AreRead marks count (rows_places rows) → AreRowsRead marks count rows
  rows_read [] some are read = record { has = All-nil (HasRow count); marked = read.marked }
  rows_read (row ∷ rows) some are read =
      let first = row_of_places_read row (All-head (λ row. 0 < row.len) row rows some)
      (All-head (λ row. IsView (row_view row)) row rows are)
      (front_read (places_of row) (rows_places rows) refl read) in
      let others = rows_read rows (All-tail (λ row. 0 < row.len) row rows some) (All-tail (λ row. IsView (row_view row)) row rows are)
      (back_read (places_of row) (rows_places rows) refl read) in
      record { has = All-cons (HasRow count) row rows first.has others.has; marked = read.marked }

lent_items : {T : Type 0} (items : List T) (row : Option Row)
    → items_of_row (option_map (row_of items) row) ≡ map (item_at_place items) (places_of_row row)
lent_items items None = refl
lent_items items (Some row) = refl

pub lent_row-first-requires : goal.lent_row-first-requires
lent_row-first-requires g c =
    let found = c.into_rows_left-first in
    let first = places_of_row found.result.0 in
    let rows = rows_places found.result.1 in
    row_read found.result.0 found.ensures.first (front_read first rows refl
    (front_read (first ++ rows) (places_of_row found.result.2) found.ensures.places c.self.invariant))

pub lent_row-last-requires : goal.lent_row-last-requires
lent_row-last-requires g c =
    let found = c.into_rows_left-first in
    let first = places_of_row found.result.0 in
    let rows = rows_places found.result.1 in
    row_read found.result.2 found.ensures.last
    (back_read (first ++ rows) (places_of_row found.result.2) found.ensures.places c.self.invariant)

pub new-requires : goal.new-requires
new-requires g c =
    let found = c.into_rows_left-first in
    let first = places_of_row found.result.0 in
    let rows = rows_places found.result.1 in
    rows_read found.result.1 found.ensures.some found.ensures.views (back_read first rows refl
    (front_read (first ++ rows) (places_of_row found.result.2) found.ensures.places c.self.invariant))

pub returns : goal.returns
returns g c =
    let found = c.into_rows_left-first in
    let items = c.self.inside.reader.items in
    let at = item_at_place items in
    let first = places_of_row found.result.0 in
    let rows = rows_places found.result.1 in
    let last = places_of_row found.result.2 in
    sym c.self.view_is
    ∙ ap (map at) found.ensures.places
    ∙ map-append at (first ++ rows) last
    ∙ ap (λ xs. xs ++ map at last) (map-append at first rows)
    ∙ ap (λ xs. (xs ++ map at rows) ++ map at last) (sym (ap items_of_row c.lent_row-first.ensures ∙ lent_items items found.result.0))
    ∙ ap (λ xs. (items_of_row c.lent_row-first.result ++ xs) ++ map at last)
    (sym (ap rows_items c.new.ensures ∙ rows_items-row_of items found.result.1))
    ∙ ap (λ xs. (items_of_row c.lent_row-first.result ++ rows_items c.new.result) ++ xs)
    (sym (ap items_of_row c.lent_row-last.ensures ∙ lent_items items found.result.2))
