-- Some of the items between two coordinates are left out.
use Rattle.std.proofs.Common.{◌≤◌, drop, take, ◌+◌, ◌-◌, length, ap, ◌∙◌, arith}
use Rattle.nd_access.specs.LentRow.{row_items, row_of}
use Rattle.nd_access.proofs.Laws.BothEnds.{drop_between}
use Rattle.nd_access.proofs.Laws.RowsLent.{count_of_items}
use Rattle.nd_access.proofs.row_items.RowItems.advance.Goals as goal

pub returns : goal.returns
returns g c =
    let left = c.self.inside in
    let has = c.self.invariant.left in
    let items = row_items (row_of left.reader.items left.row) in
    let within : left.end ≤ length items = omega (arith, has.within, count_of_items left.reader.items left.row) in
    ap (λ k. take (left.end - (left.begun + k)) (drop (left.begun + k) items)) c.min.ensures
    ∙ drop_between items left.begun left.end has.begun_first within c.args.count
    ∙ ap (λ items. drop c.args.count items) c.self.view_is
