-- Each row has its items, and those of all rows are those at the places of the view, in some order.
use Rattle.std.proofs.Common.{map, ap, subst, sym, ◌∙◌}
use Rattle.std.specs.List.Sorted.{IsPermutation}
use Rattle.std.proofs.lemmas.List.Sorted.{IsPermutation-map}
use Rattle.ndarray_layout.specs.declared.Order.TheVariants.{RowMajor}
use Rattle.ndarray_layout.specs.Rows.{rows_places}
use Rattle.ndarray_layout.specs.View.{view_places}
use Rattle.nd_access.specs.LentRow.{rows_items}
use Rattle.nd_access.specs.Items.{item_at_place}
use Rattle.nd_access.proofs.Laws.Read.{rows_of_view_read}
use Rattle.nd_access.proofs.Laws.RowsLent.{rows_items-row_of}
use Rattle.nd_lent.proofs.array_view.ArrayView.rows_in.Given.{Over}
use Rattle.nd_lent.proofs.array_view.ArrayView.rows_in.Goals as goal
use Rattle.nd_lent.proofs.array_view.ArrayView.rows_in.Goals.{After-nearest_rows}

moved : (g : Over) (c : After-nearest_rows g)
    → IsPermutation (rows_places c.nearest_rows.result) (view_places RowMajor c.args.self.now.view)
moved g c =
    subst (λ view. IsPermutation (rows_places c.nearest_rows.result) (view_places RowMajor view)) c.strided.ensures.view
    c.nearest_rows.ensures.places

pub nearest_rows-requires : goal.nearest_rows-requires
nearest_rows-requires g c = rw c.strided.ensures.view c.requires

pub new-requires : goal.new-requires
new-requires g c =
    let at = (goal.at.new-requires g c).After-nearest_rows in
    rows_of_view_read c.args.self.now.view c.nearest_rows.result (moved g at) c.reader.ensures.read c.nearest_rows.ensures.some

pub returns : goal.returns
returns g c =
    let places = rows_places c.nearest_rows.result in
    let items = c.args.self.now.items in
    let at = (goal.at.returns g c).After-nearest_rows in
    subst (λ listed. IsPermutation listed (map (item_at_place items) (view_places RowMajor c.args.self.now.view)))
    (sym (ap rows_items c.new.ensures ∙ rows_items-row_of c.reader.result.items c.nearest_rows.result
    ∙ ap (λ items. map (item_at_place items) places) c.reader.ensures.items))
    (IsPermutation-map (item_at_place items) places (view_places RowMajor c.args.self.now.view) (moved g at))
