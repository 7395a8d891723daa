-- The rows have the places of the view, and the items beside them are those at the places of the other view.
use Rattle.std.proofs.Common.{◌≡◌, map, sym, ap, subst, ◌∙◌}
use Rattle.std.specs.List.{flat_map}
use Rattle.ndarray_layout.specs.declared.Order.TheVariants.{RowMajor}
use Rattle.ndarray_layout.specs.Indices.{indices_in}
use Rattle.ndarray_layout.specs.View.{view_places}
use Rattle.nd_access.specs.Items.{ArrayValue, item_at, item_at_place}
use Rattle.nd_access.specs.LentRow.{row_items}
use Rattle.nd_access.specs.Zipped.{CallableOnEachPair}
use Rattle.nd_access.proofs.Laws.IndexItems.{items_in}
use Rattle.nd_loops.proofs.Laws.RowsOwned.{rows_of_own}
use Rattle.nd_loops.proofs.RowsBeside.{items_of_rows_beside, maps_of_rows_beside}
use Rattle.nd_loops.proofs.pairs.zip_view.Given.{Over}
use Rattle.nd_loops.proofs.pairs.zip_view.Goals as goal
use Rattle.nd_loops.proofs.pairs.zip_view.Goals.{After-rows_beside-rows}

pub rows_beside-rows-requires-clause-shape : goal.rows_beside-rows-requires-clause-shape
rows_beside-rows-requires-clause-shape g c = c.requires.shape ∙ sym c.lent_view.ensures.lens

pub zip_rows-requires-clause-rows : goal.zip_rows-requires-clause-rows
zip_rows-requires-clause-rows g c =
    let rows = c.rows_beside-rows in
    rows_of_own RowMajor c.args.cells.now.marks c.args.view.now rows.result.0 rows.ensures.is_view c.requires.own rows.ensures.places

-- the items beside the rows
others : (g : Over) (c : After-rows_beside-rows g)
    → flat_map row_items c.rows_beside-rows.result.1 ≡ map (item_at_place c.args.items.items) (view_places RowMajor c.args.source.now)
others g c =
    let array : ArrayValue g.row.U.Denot = record { items = c.args.items.items; view = c.args.source.now } in
    c.rows_beside-rows.ensures.values
    ∙ ap (λ array. map (item_at array) (indices_in RowMajor c.args.view.now.shape)) c.lent_view.ensures.array
    ∙ ap (λ shape. map (item_at array) (indices_in RowMajor shape)) c.requires.shape
    ∙ sym (items_in RowMajor array)

pub zip_rows-requires-clause-callable : goal.zip_rows-requires-clause-callable
zip_rows-requires-clause-callable g c =
    let at = (goal.at.zip_rows-requires-clause-callable g c).After-rows_beside-rows in
    subst (λ given. CallableOnEachPair g.F.FnMut given c.args.f)
    (sym (items_of_rows_beside c.args.cells.now.items c.rows_beside-rows.ensures.places (others g at))) c.requires.callable

pub returns-clause-ran : goal.returns-clause-ran
returns-clause-ran g c =
    let at = (goal.at.returns-clause-ran g c).After-rows_beside-rows in
    maps_of_rows_beside c.rows_beside-rows.ensures.places (others g at) c.zip_rows.ensures.ran
