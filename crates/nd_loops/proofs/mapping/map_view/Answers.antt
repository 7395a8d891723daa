-- The rows of a view have its places, in order.
use Rattle.std.proofs.Common.{map, sym, subst}
use Rattle.std.specs.Fn.{CalledAtMut}
use Rattle.ndarray_layout.specs.declared.Order.TheVariants.{RowMajor}
use Rattle.nd_access.specs.Items.{item_at_place}
use Rattle.nd_access.specs.Mapped.{CallableOnEachMut}
use Rattle.nd_access.specs.Written.{Maps}
use Rattle.nd_loops.proofs.Laws.RowsOwned.{rows_of_own}
use Rattle.nd_loops.proofs.mapping.map_view.Goals as goal

pub map_rows-requires-clause-rows : goal.map_rows-requires-clause-rows
map_rows-requires-clause-rows g c =
    let rows = c.joined_rows in
    rows_of_own RowMajor c.args.cells.now.marks c.args.view.now rows.result rows.ensures.is_view c.requires.own rows.ensures.places

pub map_rows-requires-clause-callable : goal.map_rows-requires-clause-callable
map_rows-requires-clause-callable g c =
    subst (λ places. CallableOnEachMut g.F.FnMut (map (item_at_place c.args.cells.now.items) places) c.args.f)
    (sym c.joined_rows.ensures.places) c.requires.callable

pub returns-clause-ran : goal.returns-clause-ran
returns-clause-ran g c =
    let items = c.args.cells.now.items in
    subst (λ places. Maps (λ p x y q. CalledAtMut g.F.FnMut p x tt q y) c.args.f places (map (item_at_place items) places) items
    c.map_rows.new.cells.items) c.joined_rows.ensures.places c.map_rows.ensures.ran
