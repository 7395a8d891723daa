-- The rows have the places of the view, and what stands beside them is what stands beside its indices.
use Rattle.std.proofs.Common.{sym, subst}
use Rattle.ndarray_layout.specs.declared.Order.TheVariants.{RowMajor}
use Rattle.nd_access.specs.Zipped.{CallableBesideEach}
use Rattle.nd_loops.specs.Beside.{shown_beside}
use Rattle.nd_loops.proofs.Laws.RowsOwned.{rows_of_own}
use Rattle.nd_loops.proofs.RowsBeside.{items_of_rows_beside, maps_of_rows_beside}
use Rattle.nd_loops.proofs.zipping.zip_views.Goals as goal

pub call_rows-requires-clause-rows : goal.call_rows-requires-clause-rows
call_rows-requires-clause-rows g c =
    let rows = c.rows_beside-rows in
    rows_of_own RowMajor c.args.cells.now.marks c.args.view.now rows.result.0 rows.ensures.is_view c.requires.own rows.ensures.places

pub call_rows-requires-clause-callable : goal.call_rows-requires-clause-callable
call_rows-requires-clause-callable g c =
    let rows = c.rows_beside-rows.ensures in
    subst (λ given. CallableBesideEach (shown_beside g.C.Beside.value) g.F.FnMut given c.args.f)
    (sym (items_of_rows_beside c.args.cells.now.items rows.places rows.values)) c.requires.callable

pub returns-clause-ran : goal.returns-clause-ran
returns-clause-ran g c =
    let rows = c.rows_beside-rows.ensures in
    maps_of_rows_beside rows.places rows.values c.call_rows.ensures.ran
