-- The items of one row more are equal, or those of all rows aren't.
use Rattle.std.proofs.Common.{◌≡◌, ◌∷◌, ap, sym, subst, ◌∙◌}
use Rattle.std.specs.Cmp.Lexicographic.{pointwise}
use Rattle.std.specs.List.{AllZip}
use Rattle.std.specs.Prelude.{◌&&◌}
use Rattle.nd_loops.specs.Equal.{both_equal}
use Rattle.nd_access.specs.LentRow.{row_items, rows_items}
use Rattle.nd_loops.proofs.Laws.Few.{others_few}
use Rattle.nd_loops.proofs.Laws.Comparing.{compared_parts}
use Rattle.nd_access.proofs.Laws.RowsLent.{count_of_items}
use Rattle.nd_loops.proofs.comparing.have_equal_each.Given.{Over}
use Rattle.nd_loops.proofs.comparing.have_equal_each.Goals as goal
use Rattle.nd_loops.proofs.comparing.have_equal_each.Goals.{In-Some-next}

counts : (g : Over) (c : In-Some-next g) → AllZip (λ row other. row.row.len ≡ other.row.len) (c.in-Some.row ∷ c.next.new.self)
    (c.in-Some-next.other ∷ c.next-in-loop-row.new.self)
counts g c =
    subst (λ rows. AllZip (λ row other. row.row.len ≡ other.row.len) rows (c.in-Some-next.other ∷ c.next-in-loop-row.new.self))
    c.in-Some.ensures.steps
    (subst (AllZip (λ row other. row.row.len ≡ other.row.len) c.loop-row.row-iterator) c.in-Some-next.ensures.steps
    c.loop-row.invariant.count)

-- all items are equal where those of the row are, and those of the rows that are left
parts : (g : Over) (c : In-Some-next g) → pointwise (both_equal g.T.EqualTo.equal_to) (rows_items c.args.rows) (rows_items c.args.others)
    ≡ (pointwise (both_equal g.T.EqualTo.equal_to) (row_items c.in-Some.row) (row_items c.in-Some-next.other)
    && pointwise (both_equal g.T.EqualTo.equal_to) (rows_items c.next.new.self) (rows_items c.next-in-loop-row.new.self))
parts g c =
    let compare = pointwise (both_equal g.T.EqualTo.equal_to) in
    let row = c.in-Some.row in
    let other = c.in-Some-next.other in
    sym c.loop-row.invariant.same
    ∙ ap (λ rows. compare (rows_items rows) (rows_items c.loop-row.others)) c.in-Some.ensures.steps
    ∙ ap (λ others. compare (rows_items (row ∷ c.next.new.self)) (rows_items others)) c.in-Some-next.ensures.steps
    ∙ compared_parts g.T.EqualTo.equal_to (row_items row) (rows_items c.next.new.self) (row_items other)
    (rows_items c.next-in-loop-row.new.self)
    (sym (count_of_items row.items row.row) ∙ (counts g c).0 ∙ count_of_items other.items other.row)

pub returns-then-not-are_equal_rows : goal.returns-then-not-are_equal_rows
returns-then-not-are_equal_rows g c =
    let rest = pointwise (both_equal g.T.EqualTo.equal_to) (rows_items c.next.new.self) (rows_items c.next-in-loop-row.new.self) in
    sym (parts g (goal.at.returns-then-not-are_equal_rows g c).In-Some-next
    ∙ ap (λ first. first && rest) (sym c.are_equal_rows.ensures ∙ c.if-not-are_equal_rows.true))

pub loop-row-preserved-else-not-are_equal_rows : goal.loop-row-preserved-else-not-are_equal_rows
loop-row-preserved-else-not-are_equal_rows g c =
    let at = (goal.at.loop-row-preserved-else-not-are_equal_rows g c).In-Some-next in
    let rest = pointwise (both_equal g.T.EqualTo.equal_to) (rows_items c.next.new.self) (rows_items c.next-in-loop-row.new.self) in
    record {
      few = others_few (λ row. g.row.FEW ≡ row.row.len) c.in-Some.ensures.steps c.loop-row.invariant.few;
      count = (counts g at).1;
      same = sym (parts g at ∙ ap (λ first. first && rest) (sym c.are_equal_rows.ensures ∙ c.if-not-are_equal_rows.false));
    }
