-- Laws of the lengths of rows with as many places as a view.
use Rattle.std.proofs.Common.{◌≡◌, ◌+◌, ◌<◌, ◌≤◌, ◌^◌, List, [], ◌∷◌, length, ap, ◌∙◌, arith}
use Rattle.std.specs.List.{All}
use Rattle.std.proofs.lemmas.List.{length-append}
use Rattle.std.proofs.lemmas.List.Elements.{All-cons, All-nil, All-weaker}
use Rattle.ndarray_layout.specs.declared.Order.{Order}
use Rattle.ndarray_layout.specs.declared.Row.{Row}
use Rattle.ndarray_layout.specs.Rows.{row_places, rows_places}
use Rattle.ndarray_layout.specs.View.{View, IsView, view_places}
use Rattle.ndarray_layout.proofs.Laws.NonzeroSize.{size_le_nonzero_size}
use Rattle.ndarray_layout.proofs.Laws.Rows.{length-row_places}
use Rattle.ndarray_layout.proofs.Laws.View.{length-view_places}

-- none is longer than all of them together
no_longer : (rows : List Row) → All (λ row. row.len ≤ length (rows_places rows)) rows
no_longer [] = All-nil (λ row. row.len ≤ length (rows_places []))
no_longer (row ∷ rows) =
    let first = row_places row.start row.stride row.len in
    let all = length (rows_places (row ∷ rows)) in
    let count : all ≡ row.len + length (rows_places rows) =
    length-append first (rows_places rows)
    ∙ ap (λ n. n + length (rows_places rows)) (length-row_places row.start row.stride row.len) in
    All-cons (λ row. row.len ≤ all) row rows (omega (arith, count))
    (All-weaker (λ row. row.len ≤ length (rows_places rows)) (λ row. row.len ≤ all) (λ row below. omega (arith, count, below)) rows
    (no_longer rows))

-- so none is too long for an `isize`
pub short_rows : (order : Order) (view : View) (rows : List Row) → length (rows_places rows) ≡ length (view_places order view)
    → IsView view → All (λ row. row.len < 2 ^ 63) rows
short_rows order view rows count v =
    let few : length (rows_places rows) < 2 ^ 63 =
    omega (arith, count, length-view_places order view, size_le_nonzero_size view.shape, v.valid.size_fits) in
    All-weaker (λ row. row.len ≤ length (rows_places rows)) (λ row. row.len < 2 ^ 63) (λ row below. omega (arith, few, below)) rows
    (no_longer rows)
