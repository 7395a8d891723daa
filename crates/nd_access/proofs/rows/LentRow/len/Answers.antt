-- There is an item for each place.
use Rattle.nd_access.proofs.Laws.RowsLent.{count_of_items}
use Rattle.nd_access.proofs.rows.LentRow.len.Goals as goal

pub returns-clause-count : goal.returns-clause-count
returns-clause-count g c = rw (← c.self.view_is) (count_of_items c.self.inside.reader.items c.self.inside.row)
