-- Each row has its items, and what is left comes from its front on, in order.
use Rattle.std.proofs.Common.{◌≡◌, List, ap, length, map, ◌∙◌}
use Rattle.std.specs.Iterator.{YieldsFirst}
use Rattle.std.proofs.iter.runs.Sources.{as_is, from_front}
use Rattle.ndarray_layout.specs.declared.Order.TheVariants.{RowMajor}
use Rattle.ndarray_layout.specs.Rows.{view_rows}
use Rattle.ndarray_layout.proofs.Laws.Rows.{rows_places-view_rows, some_in_each_row}
use Rattle.nd_access.specs.LentRow.{RowValue, row_of, rows_items}
use Rattle.nd_access.proofs.Laws.Permuted.{permuted}
use Rattle.nd_access.proofs.Laws.Read.{rows_of_view_read}
use Rattle.nd_access.proofs.Laws.RowsLent.{items_of_rows}
use Rattle.nd_lent.proofs.array_view.ArrayView.rows.Given.{Over}
use Rattle.nd_lent.proofs.array_view.ArrayView.rows.Goals as goal
use Rattle.nd_lent.proofs.array_view.ArrayView.rows.Goals.{After-new}

pub new-requires : goal.new-requires
new-requires g c =
    let view = c.args.self.now.view in
    let read = c.reader.ensures.read in
    rw (c.rows.ensures.items, c.strided.ensures.view)
    (rows_of_view_read view (view_rows RowMajor view) (permuted (rows_places-view_rows RowMajor read.has.is_view)) read
    (some_in_each_row RowMajor view))

-- the rows are those of the view
are : (g : Over) (c : After-new g) → c.new.result ≡ map (row_of c.args.self.now.items) (view_rows RowMajor c.args.self.now.view)
are g c =
    c.new.ensures
    ∙ ap (λ items. map (row_of items) c.rows.result) c.reader.ensures.items
    ∙ ap (map (row_of c.args.self.now.items)) (c.rows.ensures.items ∙ ap (view_rows RowMajor) c.strided.ensures.view)

pub returns-clause-rows : goal.returns-clause-rows
returns-clause-rows g c = are g (goal.at.returns-clause-rows g c).After-new

pub returns-clause-items : goal.returns-clause-items
returns-clause-items g c =
    let view = c.args.self.now.view in
    ap rows_items (are g (goal.at.returns-clause-items g c).After-new)
    ∙ items_of_rows RowMajor c.args.self.now.items view (view_rows RowMajor view)
    (rows_places-view_rows RowMajor c.reader.ensures.read.has.is_view)

pub returns-clause-in_order : goal.returns-clause-in_order
returns-clause-in_order g c =
    let left = λ (rows : List (RowValue g.row.T.Denot)). rows in
    λ p s. as_is p (left p.from) (from_front (YieldsFirst left) (λ x. x) left (λ s t h. ap length h.0) (λ s x t h. h) p s)
