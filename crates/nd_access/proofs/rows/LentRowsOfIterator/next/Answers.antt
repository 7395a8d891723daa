-- The row has its items, and so have the other rows.
use Rattle.nd_access.proofs.Laws.Read.{first_row_read, other_rows_read}
use Rattle.nd_access.proofs.rows.LentRowsOfIterator.next.Goals as goal

pub invariant_of-result : goal.invariant_of-result
invariant_of-result g c =
    rw c.copied.ensures.same (first_row_read c.self.inside.rows c.self.invariant c.in_ok-row.ensures.steps)

pub invariant_of-self-2 : goal.invariant_of-self-2
invariant_of-self-2 g c = other_rows_read c.self.inside.rows c.self.invariant c.in_ok-row.ensures.steps
