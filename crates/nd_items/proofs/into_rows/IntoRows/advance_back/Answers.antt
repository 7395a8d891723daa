-- As many are left out of what is made as of what it is made of.
use Rattle.std.proofs.Common.{◌-◌, length}
use Rattle.nd_access.specs.LentRow.{row_of}
use Rattle.nd_access.proofs.Laws.BothEnds.{made_of_taken}
use Rattle.nd_access.proofs.Laws.Read.{rows_read_before}
use Rattle.nd_items.proofs.into_rows.IntoRows.advance_back.Goals as goal

pub invariant_of-self : goal.invariant_of-self
invariant_of-self g c =
    rows_read_before c.self.inside.rows c.self.invariant (length c.self.inside.rows - c.args.count) c.advance_back.ensures

pub returns : goal.returns
returns g c = made_of_taken (row_of c.self.inside.reader.items) c.args.count c.self.inside.rows c.advance_back.ensures c.self.view_is
