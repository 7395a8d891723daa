-- Each is lent of one of the rows.
use Rattle.std.proofs.Common.{◌≡◌, subst}
use Rattle.std.specs.List.{All}
use Rattle.std.proofs.lemmas.List.Elements.{All-map}
use Rattle.nd_access.specs.LentRow.{RowValue, row_of}
use Rattle.nd_access.proofs.rows.LentRowsOf.row_len.Goals as goal

pub returns : goal.returns
returns g c =
    let self = c.self.inside in
    let len = c.row_len.result in
    subst (All (λ (row : RowValue g.row.T.Denot). row.row.len ≡ len)) c.self.view_is
    (All-map (λ (row : RowValue g.row.T.Denot). row.row.len ≡ len) (row_of self.reader.items) self.rows c.row_len.ensures)
