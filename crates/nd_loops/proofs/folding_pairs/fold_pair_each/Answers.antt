-- The pairs of one row more are folded.
use Rattle.std.proofs.Common.{◌≡◌, ◌∷◌, ◌++◌, sym, ap, subst, ◌∙◌}
use Rattle.std.specs.List.{AllZip}
use Rattle.ndarray_layout.proofs.Laws.Folding.{both_called, callable_after, callable_in_part, none_called}
use Rattle.nd_access.specs.LentRow.{row_items, rows_items}
use Rattle.nd_access.specs.Zipped.{pairs_of}
use Rattle.nd_loops.specs.FoldedPairs.{CallableInFoldOfPairs, HasFoldedPairs}
use Rattle.nd_loops.proofs.Laws.Few.{others_few}
use Rattle.nd_loops.proofs.PairsFolded.{first_pairs}
use Rattle.nd_loops.proofs.folding_pairs.fold_pair_each.Given.{Over}
use Rattle.nd_loops.proofs.folding_pairs.fold_pair_each.Goals as goal
use Rattle.nd_loops.proofs.folding_pairs.fold_pair_each.Goals.{In-Some-next}

counts : (g : Over) (c : In-Some-next g) → AllZip (λ row other. row.row.len ≡ other.row.len) (c.in-Some.row ∷ c.next.new.self)
    (c.in-Some-next.other ∷ c.next-in-loop-row.new.self)
counts g c =
    subst (λ rows. AllZip (λ row other. row.row.len ≡ other.row.len) rows (c.in-Some-next.other ∷ c.next-in-loop-row.new.self))
    c.in-Some.ensures.steps
    (subst (AllZip (λ row other. row.row.len ≡ other.row.len) c.loop-row.row-iterator) c.in-Some-next.ensures.steps
    c.loop-row.invariant.count)

-- the pairs of the row, and then those of the rows that are left
parts : (g : Over) (c : In-Some-next g) → pairs_of (rows_items c.loop-row.row-iterator) (rows_items c.loop-row.others)
    ≡ pairs_of (row_items c.in-Some.row) (row_items c.in-Some-next.other)
    ++ pairs_of (rows_items c.next.new.self) (rows_items c.next-in-loop-row.new.self)
parts g c =
    ap (λ rows. pairs_of (rows_items rows) (rows_items c.loop-row.others)) c.in-Some.ensures.steps
    ∙ ap (λ others. pairs_of (rows_items (c.in-Some.row ∷ c.next.new.self)) (rows_items others)) c.in-Some-next.ensures.steps
    ∙ first_pairs c.in-Some.row c.in-Some-next.other (counts g c).0 c.next.new.self c.next-in-loop-row.new.self

callable : (g : Over) (c : In-Some-next g) → CallableInFoldOfPairs g.F.FnMut
    (pairs_of (row_items c.in-Some.row) (row_items c.in-Some-next.other)
    ++ pairs_of (rows_items c.next.new.self) (rows_items c.next-in-loop-row.new.self)) c.loop-row.f c.loop-row.total
callable g c =
    subst (λ pairs. CallableInFoldOfPairs g.F.FnMut pairs c.loop-row.f c.loop-row.total) (parts g c) c.loop-row.invariant.callable

pub fold_pair_row-requires-clause-callable : goal.fold_pair_row-requires-clause-callable
fold_pair_row-requires-clause-callable g c =
    let at = (goal.at.fold_pair_row-requires-clause-callable g c).In-Some-next in
    callable_in_part (pairs_of (row_items c.in-Some.row) (row_items c.in-Some-next.other))
    (pairs_of (rows_items c.next.new.self) (rows_items c.next-in-loop-row.new.self)) (callable g at)

pub loop-row-preserved-in-Some-next : goal.loop-row-preserved-in-Some-next
loop-row-preserved-in-Some-next g c =
    let at = (goal.at.loop-row-preserved-in-Some-next g c).In-Some-next in
    record {
      few = others_few (λ row. g.row.FEW ≡ row.row.len) c.in-Some.ensures.steps c.loop-row.invariant.few;
      count = (counts g at).1;
      folded = λ h result others. c.loop-row.invariant.folded h result
          (subst (λ pairs. HasFoldedPairs g.F.FnMut (c.loop-row.f, c.loop-row.total) pairs (h, result)) (sym (parts g at))
          (both_called {p = (c.loop-row.f, c.loop-row.total)} c.fold_pair_row.ensures others));
      callable = callable_after {p = (c.loop-row.f, c.loop-row.total)} c.fold_pair_row.ensures (callable g at);
    }

pub returns : goal.returns
returns g c = (
  c.loop-row.f,
  c.loop-row.invariant.folded c.loop-row.f c.loop-row.total
      (subst (λ rows. HasFoldedPairs g.F.FnMut (c.loop-row.f, c.loop-row.total) (pairs_of (rows_items rows) (rows_items c.loop-row.others))
      (c.loop-row.f, c.loop-row.total)) (sym c.in-None.ensures.steps.0) none_called),
)
