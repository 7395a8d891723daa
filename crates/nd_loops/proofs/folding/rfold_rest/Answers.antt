-- The items of one row more are folded, from the back.
use Rattle.std.proofs.Common.{refl, reverse, subst, sym, ap, ◌∙◌}
use Rattle.std.specs.Iterator.{CallableInFold}
use Rattle.std.proofs.lemmas.List.{reverse-append}
use Rattle.nd_access.specs.LentRow.{row_items}
use Rattle.nd_access.specs.Lending.{lends}
use Rattle.nd_access.specs.Folded.{HasFolded}
use Rattle.nd_loops.proofs.FoldedBack.{all_folded_back, callable_turned}
use Rattle.nd_access.proofs.Laws.Folding.{both_called, callable_after, callable_in_part, none_called}
use Rattle.nd_loops.proofs.folding.rfold_rest.Goals as goal

pub loop-row-init : goal.loop-row-init
loop-row-init g c = record {
  folded = λ h result folded. folded;
  callable = callable_turned (g.I.RowByRow.left c.args.items) c.requires.callable;
}

pub rfold_row-requires : goal.rfold_row-requires
rfold_row-requires g c κs =
    let left = g.I.RowByRow.left c.next_row_back.new.self in
    let all = subst (λ items. CallableInFold lends g.F.FnMut items c.loop-row.f c.loop-row.total)
    (ap reverse c.in-Some.ensures.1 ∙ reverse-append left (row_items c.in-Some.row)) c.loop-row.invariant.callable in
    ((refl, tt), callable_in_part (reverse (row_items c.in-Some.row)) (reverse left) all)

pub loop-row-preserved : goal.loop-row-preserved
loop-row-preserved g c =
    let left = g.I.RowByRow.left c.next_row_back.new.self in
    let is = ap reverse c.in-Some.ensures.1 ∙ reverse-append left (row_items c.in-Some.row) in
    let all = subst (λ items. CallableInFold lends g.F.FnMut items c.loop-row.f c.loop-row.total) is c.loop-row.invariant.callable in
    record {
      folded = λ h result others. c.loop-row.invariant.folded h result
          (subst (λ items. HasFolded g.F.FnMut (c.loop-row.f, c.loop-row.total) items (h, result)) (sym is)
          (both_called {p = (c.loop-row.f, c.loop-row.total)} c.rfold_row.ensures others));
      callable = callable_after {p = (c.loop-row.f, c.loop-row.total)} c.rfold_row.ensures all;
    }

pub returns : goal.returns
returns g c = record {
  ran = all_folded_back (g.I.RowByRow.left c.args.items) (c.loop-row.invariant.folded c.loop-row.f c.loop-row.total
      (subst (λ items. HasFolded g.F.FnMut (c.loop-row.f, c.loop-row.total) items (c.loop-row.f, c.loop-row.total))
      (ap reverse (sym c.in_default.ensures.0)) none_called));
}
