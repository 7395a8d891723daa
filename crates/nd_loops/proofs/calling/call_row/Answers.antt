-- A row by the stride 1 has the same places by that number.
use Rattle.std.proofs.Common.{rules, ◌≡◌, pos, sym, subst}
use Rattle.ndarray_layout.specs.Rows.{row_places}
use Rattle.nd_access.specs.LentRow.{places_of}
use Rattle.nd_access.specs.MapsTo.{MapsTo}
use Rattle.nd_access.specs.Zipped.{CalledBeside}
use Rattle.nd_loops.specs.Beside.{items_beside, shown_beside}
use Rattle.nd_loops.proofs.calling.call_row.Goals as goal

pub returns-in-Some-clause-ran : goal.returns-in-Some-clause-ran
returns-in-Some-clause-ran g c =
    let row = c.args.row in
    let one : row.stride ≡ pos 1 = search rules in
    let call = CalledBeside (shown_beside g.C.Beside.value) g.F.FnMut in
    let old = c.args.cells.now.items in
    let new = c.call_places.new.cells.items in
    let last = c.call_places.result in
    subst (λ values. MapsTo call c.args.f (places_of row) (items_beside old (places_of row) values) old new last) c.in-Some.ensures
    (subst (λ stride. MapsTo call c.args.f (row_places row.start stride row.len)
    (items_beside old (row_places row.start stride row.len) (g.C.Beside.values c.in-Some.beside)) old new last) (sym one)
    c.call_places.ensures.ran)
