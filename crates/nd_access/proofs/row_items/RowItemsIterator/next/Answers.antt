-- The item of the first coordinate that is left comes.
use Rattle.std.proofs.Common.{◌≡◌, Some, get_or, subst, ◌≤◌, ◌<◌, ◌+◌, ◌-◌, None, ◌∷◌, drop, take, length, sym, ap, ◌∙◌, arith}
use Rattle.nd_access.specs.declared.cells.Reader.{Reader}
use Rattle.nd_access.specs.LentRow.{row_items, row_of}
use Rattle.nd_access.proofs.Laws.BothEnds.{first_between}
use Rattle.nd_access.proofs.Laws.RowsLent.{count_of_items}
use Rattle.nd_access.proofs.row_items.RowItemsIterator.next.Goals as goal

pub invariant_of-row : goal.invariant_of-row
invariant_of-row g c =
    let has = c.self.invariant.left in
    rw c.copied.ensures.same (record { has = has.has (omega (arith, has.begun_first)); marked = c.self.invariant.marked })

pub returns-clause-steps : goal.returns-clause-steps
returns-clause-steps g c =
    let left = c.self.inside in
    let has = c.self.invariant.left in
    let items = row_items (row_of left.reader.items left.row) in
    let within : left.end ≤ length items = omega (arith, has.within, count_of_items left.reader.items left.row) in
    let some : left.begun < left.end = omega (arith, has.begun_first) in
    sym c.self.view_is
    ∙ first_between items left.begun left.end has.begun_first within None some
    ∙ ap (λ item. item ∷ take (left.end - (left.begun + 1)) (drop (left.begun + 1) items))
    (subst (λ (r : Reader g.row.T.Denot). get_or (row_items (row_of r.items left.row)) left.begun None ≡ Some c.item-item.result.now)
    c.copied.ensures.same c.item-item.ensures)
