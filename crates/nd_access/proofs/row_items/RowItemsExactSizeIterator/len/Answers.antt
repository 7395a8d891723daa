-- There are as many as coordinates.
use Rattle.std.proofs.Common.{◌≤◌, length, sym, ap, ◌∙◌, arith}
use Rattle.nd_access.specs.LentRow.{row_items, row_of}
use Rattle.nd_access.proofs.Laws.BothEnds.{count_between}
use Rattle.nd_access.proofs.Laws.RowsLent.{count_of_items}
use Rattle.nd_access.proofs.row_items.RowItemsExactSizeIterator.len.Goals as goal

pub returns-clause-value : goal.returns-clause-value
returns-clause-value g c =
    let left = c.self.inside in
    let has = c.self.invariant.left in
    let items = row_items (row_of left.reader.items left.row) in
    let within : left.end ≤ length items = omega (arith, has.within, count_of_items left.reader.items left.row) in
    sym (count_between items left.begun left.end has.begun_first within) ∙ ap length c.self.view_is
