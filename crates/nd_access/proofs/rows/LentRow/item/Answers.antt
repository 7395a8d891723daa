-- A coordinate of the row has a place among the items, which has a mark.
use Rattle.std.proofs.Common.{sym, ◌<◌, subst}
use Rattle.nd_access.proofs.Laws.Read.{mark_of_coordinate, read_of_coordinate}
use Rattle.nd_access.proofs.Laws.RowsLent.{place_of_coordinate}
use Rattle.nd_access.proofs.rows.LentRow.item.Goals as goal

pub place_in_row-requires-clause-first : goal.place_in_row-requires-clause-first
place_in_row-requires-clause-first g c =
    let below = subst (λ row. c.args.coordinate < row.row.len) (sym c.self.view_is) c.requires in
    (place_of_coordinate c.self.inside.row c.args.coordinate c.self.invariant.has below).first

pub place_in_row-requires-clause-in_bounds : goal.place_in_row-requires-clause-in_bounds
place_in_row-requires-clause-in_bounds g c =
    let below = subst (λ row. c.args.coordinate < row.row.len) (sym c.self.view_is) c.requires in
    (place_of_coordinate c.self.inside.row c.args.coordinate c.self.invariant.has below).fits

pub get-requires : goal.get-requires
get-requires g c =
    let below = subst (λ row. c.args.coordinate < row.row.len) (sym c.self.view_is) c.requires in
    mark_of_coordinate c.self.inside.reader.marks c.self.inside.row c.self.invariant.marked below c.place_in_row.ensures

pub returns : goal.returns
returns g c =
    let below = subst (λ row. c.args.coordinate < row.row.len) (sym c.self.view_is) c.requires in
    rw (← c.self.view_is) (read_of_coordinate c.self.inside.reader.items c.self.inside.row below c.place_in_row.ensures c.get.ensures)
