-- As many are left out of what is made as of what it is made of.
use Rattle.nd_access.specs.LentRow.{row_of}
use Rattle.nd_access.proofs.Laws.BothEnds.{made_of_dropped}
use Rattle.nd_access.proofs.Laws.Read.{rows_read_after}
use Rattle.nd_items.proofs.into_rows.IntoRows.advance.Goals as goal

pub invariant_of-self : goal.invariant_of-self
invariant_of-self g c = rows_read_after c.self.inside.rows c.self.invariant c.args.count c.advance.ensures

pub returns : goal.returns
returns g c = made_of_dropped (row_of c.self.inside.reader.items) c.args.count c.self.inside.rows c.advance.ensures c.self.view_is
