-- Past the row there is no item.
use Rattle.std.proofs.Common.{arith}
use Rattle.nd_access.proofs.Laws.RowsLent.{no_item_past}
use Rattle.nd_access.proofs.rows.LentRow.get.Goals as goal

pub returns-then-coordinate-self-clause-item : goal.returns-then-coordinate-self-clause-item
returns-then-coordinate-self-clause-item g c =
    rw (← c.self.view_is) (no_item_past c.self.inside.reader.items c.self.inside.row (omega (arith, c.if-coordinate-self.true)))
