-- The row has its items, and so have the other rows.
use Rattle.nd_access.proofs.Laws.Read.{last_row_read, rows_before_read}
use Rattle.nd_access.proofs.rows.LentRowsOfDoubleEndedIterator.next_back.Goals as goal

pub invariant_of-result : goal.invariant_of-result
invariant_of-result g c =
    rw c.copied.ensures.same
    (last_row_read c.self.inside.rows c.self.invariant c.in_ok-row.row c.next_back.new.self c.in_ok-row.ensures.steps)

pub invariant_of-self-2 : goal.invariant_of-self-2
invariant_of-self-2 g c =
    rows_before_read c.self.inside.rows c.self.invariant c.in_ok-row.row c.next_back.new.self c.in_ok-row.ensures.steps
