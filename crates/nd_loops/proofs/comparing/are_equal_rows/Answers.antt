-- The items of both rows are those of the slices.
use Rattle.std.proofs.Common.{Some, map, sym, ap, ◌∙◌}
use Rattle.std.specs.Cmp.Lexicographic.{pointwise}
use Rattle.nd_loops.specs.Equal.{both_equal}
use Rattle.nd_access.specs.LentRow.{row_items}
use Rattle.nd_loops.proofs.Laws.Comparing.{slices_compared}
use Rattle.nd_loops.proofs.comparing.are_equal_rows.Goals as goal

pub returns-in-Some-Some : goal.returns-in-Some-Some
returns-in-Some-Some g c =
    let items = c.in-Some-Some.items.now in
    let others = c.in-Some-Some.others.now in
    let compare = pointwise (both_equal g.T.EqualTo.equal_to) in
    c.are_equal_to.ensures
    ∙ sym (slices_compared g.T.EqualTo.equal_to items others)
    ∙ ap (λ xs. compare xs (map Some others)) c.in-Some-Some.ensures.items
    ∙ ap (compare (row_items c.args.one)) c.in-Some-Some.ensures'.items
