-- The row that comes next is a part of its own, and the right has the others.
use Rattle.std.proofs.Common.{ap, map, subst, ◌∙◌}
use Rattle.nd_access.specs.Items.{item_at_place}
use Rattle.nd_access.specs.Own.{AreOwn}
use Rattle.nd_access.proofs.Laws.OwnRows.{front_row_comes, other_rows_are_own, row_is_part, some_items}
use Rattle.nd_items.proofs.items.IterMut.next_part.Goals as goal

pub take_view-requires : goal.take_view-requires
take_view-requires g c =
    let self = c.args.self.now in
    let own = subst (AreOwn self.cells.marks) c.in_ok-row.ensures.row.1 self.own in
    rw c.layout-view.ensures.view (row_is_part self.cells.marks c.in_ok-row.row c.next_row.new.self own c.in_ok-row.ensures.row_is_view)

pub invariant_of-self-2 : goal.invariant_of-self-2
invariant_of-self-2 g c =
    let self = c.args.self.now in
    let own = subst (AreOwn self.cells.marks) c.in_ok-row.ensures.row.1 self.own in
    record {
      own = rw (c.take_view.ensures.left, c.layout-view.ensures.view)
          (other_rows_are_own self.cells.marks c.in_ok-row.row c.next_row.new.self own);
    }

pub returns-clause-row : goal.returns-clause-row
returns-clause-row g c =
    let items = c.args.self.now.cells.items in
    front_row_comes c.in_ok-row.row items c.in_ok-row.ensures.row.0 c.in_ok-row.ensures.row_is_view
    (ap (λ all. record { items = all; view = c.layout-view.result }) c.take_view.ensures.items
    ∙ ap (λ view. record { items = items; view = view }) c.layout-view.ensures.view)
    c.next_row.new.self c.take_view.ensures.kept (ap (map (item_at_place items)) c.in_ok-row.ensures.row.1)

pub returns-clause-some : goal.returns-clause-some
returns-clause-some g c =
    let items = c.args.self.now.cells.items in
    some_items c.in_ok-row.row items c.in_ok-row.ensures.row.0 c.in_ok-row.ensures.row_is_view
    (ap (λ all. record { items = all; view = c.layout-view.result }) c.take_view.ensures.items
    ∙ ap (λ view. record { items = items; view = view }) c.layout-view.ensures.view)
