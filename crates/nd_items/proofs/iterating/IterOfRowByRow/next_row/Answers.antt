-- The row has its items, and so have the other places.
use Rattle.nd_access.specs.LentRow.{places_of}
use Rattle.nd_access.proofs.Laws.Read.{back_read, front_read, row_of_places_read}
use Rattle.nd_items.proofs.iterating.IterOfRowByRow.next_row.Goals as goal

pub invariant_of-result : goal.invariant_of-result
invariant_of-result g c =
    let row = c.in_ok-row.row in
    let found = c.in_ok-row.ensures in
    rw c.copied.ensures.same (row_of_places_read row found.row.0 found.row_is_view
    (front_read (places_of row) c.next_row.new.self found.row.1 c.self.invariant))

pub invariant_of-self-2 : goal.invariant_of-self-2
invariant_of-self-2 g c = back_read (places_of c.in_ok-row.row) c.next_row.new.self c.in_ok-row.ensures.row.1 c.self.invariant
