-- The items of one row more are folded.
use Rattle.std.proofs.Common.{refl, subst, sym}
use Rattle.std.specs.Iterator.{CallableInFold}
use Rattle.nd_access.specs.LentRow.{row_items}
use Rattle.nd_access.specs.Lending.{lends}
use Rattle.nd_access.specs.Folded.{HasFolded}
use Rattle.nd_access.proofs.Laws.Folding.{all_folded, both_called, callable_after, callable_in_part, none_called}
use Rattle.nd_loops.proofs.folding.fold_rest.Goals as goal

pub fold_any-requires : goal.fold_any-requires
fold_any-requires g c κs =
    let all = subst (λ items. CallableInFold lends g.F.FnMut items c.loop-row.f c.loop-row.total) c.in-Some.ensures.1
    c.loop-row.invariant.callable in
    ((refl, tt), callable_in_part (row_items c.in-Some.row) (g.I.RowByRow.left c.next_row.new.self) all)

pub loop-row-preserved : goal.loop-row-preserved
loop-row-preserved g c =
    let all = subst (λ items. CallableInFold lends g.F.FnMut items c.loop-row.f c.loop-row.total) c.in-Some.ensures.1
    c.loop-row.invariant.callable in
    record {
      folded = λ h result others. c.loop-row.invariant.folded h result
          (subst (λ items. HasFolded g.F.FnMut (c.loop-row.f, c.loop-row.total) items (h, result)) (sym c.in-Some.ensures.1)
          (both_called {p = (c.loop-row.f, c.loop-row.total)} c.fold_any.ensures others));
      callable = callable_after {p = (c.loop-row.f, c.loop-row.total)} c.fold_any.ensures all;
    }

pub returns : goal.returns
returns g c = record {
  ran = all_folded (c.loop-row.invariant.folded c.loop-row.f c.loop-row.total
      (subst (λ items. HasFolded g.F.FnMut (c.loop-row.f, c.loop-row.total) items (c.loop-row.f, c.loop-row.total))
      (sym c.in_default.ensures.0) none_called));
}
