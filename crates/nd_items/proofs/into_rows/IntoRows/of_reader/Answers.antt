-- Each row has its items, and what is left comes from its front on, in order.
use Rattle.std.proofs.Common.{List, ap, length, map, ◌∙◌}
use Rattle.std.specs.Iterator.{YieldsFirst}
use Rattle.std.proofs.iter.runs.Sources.{as_is, from_front}
use Rattle.ndarray_layout.specs.declared.Order.TheVariants.{RowMajor}
use Rattle.ndarray_layout.specs.Rows.{view_rows}
use Rattle.ndarray_layout.proofs.Laws.Rows.{rows_places-view_rows, some_in_each_row}
use Rattle.nd_access.specs.LentRow.{RowValue, row_of, rows_items}
use Rattle.nd_access.proofs.Laws.Permuted.{permuted}
use Rattle.nd_access.proofs.Laws.Read.{rows_of_view_read}
use Rattle.nd_access.proofs.Laws.RowsLent.{items_of_rows}
use Rattle.nd_items.proofs.into_rows.IntoRows.of_reader.Goals as goal

pub invariant_of-result : goal.invariant_of-result
invariant_of-result g c =
    let view = c.args.view in
    let read = c.requires in
    rw c.into_rows.ensures.items
    (rows_of_view_read view (view_rows RowMajor view) (permuted (rows_places-view_rows RowMajor read.has.is_view)) read
    (some_in_each_row RowMajor view))

pub returns-clause-items : goal.returns-clause-items
returns-clause-items g c =
    let view = c.args.view in
    let items = c.args.reader.items in
    (ap (λ rows. rows_items (map (row_of items) rows)) c.into_rows.ensures.items
    ∙ items_of_rows RowMajor items view (view_rows RowMajor view) (rows_places-view_rows RowMajor c.requires.has.is_view))

pub returns-clause-in_order : goal.returns-clause-in_order
returns-clause-in_order g c =
    let left = λ (rows : List (RowValue g.row.T.Denot)). rows in
    λ p s. as_is p (left p.from) (from_front (YieldsFirst left) (λ x. x) left (λ s t h. ap length h.0) (λ s x t h. h) p s)
