-- Each row has its items, and those of all rows are those at the places of the view.
use Rattle.std.proofs.Common.{ap, ◌∙◌}
use Rattle.ndarray_layout.specs.declared.Order.TheVariants.{RowMajor}
use Rattle.ndarray_layout.specs.View.{view_places}
use Rattle.nd_access.specs.LentRow.{rows_items}
use Rattle.nd_access.proofs.Laws.Permuted.{permuted}
use Rattle.nd_access.proofs.Laws.Read.{rows_of_view_read}
use Rattle.nd_access.proofs.Laws.RowsLent.{items_of_rows}
use Rattle.nd_lent.proofs.array_view.ArrayView.joined_rows.Goals as goal

pub new-requires : goal.new-requires
new-requires g c =
    let rows = c.joined_rows in
    rows_of_view_read c.args.self.now.view rows.result
    (permuted (rows.ensures.places ∙ ap (view_places RowMajor) c.strided.ensures.view)) c.reader.ensures.read rows.ensures.some

pub returns : goal.returns
returns g c =
    let rows = c.joined_rows in
    rw c.reader.ensures.items at
    (ap rows_items c.new.ensures
    ∙ items_of_rows RowMajor c.reader.result.items c.args.self.now.view rows.result
    (rows.ensures.places ∙ ap (view_places RowMajor) c.strided.ensures.view))
