-- The items of one row more are folded.
use Rattle.std.proofs.Common.{◌≡◌, ap, refl, subst, sym}
use Rattle.std.specs.Iterator.{CallableInFold}
use Rattle.nd_loops.proofs.Laws.Few.{first_few, others_few}
use Rattle.nd_access.specs.LentRow.{row_items, rows_items}
use Rattle.nd_access.specs.Lending.{lends}
use Rattle.nd_access.specs.Folded.{HasFolded}
use Rattle.nd_access.proofs.Laws.Folding.{both_called, callable_after, callable_in_part, none_called}
use Rattle.nd_loops.proofs.folding.fold_each.Goals as goal

pub fold_row-requires : goal.fold_row-requires
fold_row-requires g c κs =
    let all = subst (λ items. CallableInFold lends g.F.FnMut items c.loop-row.f c.loop-row.total) (ap rows_items c.in-Some.ensures.steps)
    c.loop-row.invariant.callable in
    let few = first_few (λ row. c.args.few ≡ row.row.len) c.in-Some.ensures.steps c.loop-row.invariant.few in
    ((refl, tt), (few, callable_in_part (row_items c.in-Some.row) (rows_items c.next.new.self) all))

pub loop-row-preserved : goal.loop-row-preserved
loop-row-preserved g c =
    let all = subst (λ items. CallableInFold lends g.F.FnMut items c.loop-row.f c.loop-row.total) (ap rows_items c.in-Some.ensures.steps)
    c.loop-row.invariant.callable in
    record {
      few = others_few (λ row. c.args.few ≡ row.row.len) c.in-Some.ensures.steps c.loop-row.invariant.few;
      folded = λ h result others. c.loop-row.invariant.folded h result
          (subst (λ items. HasFolded g.F.FnMut (c.loop-row.f, c.loop-row.total) items (h, result))
          (sym (ap rows_items c.in-Some.ensures.steps))
          (both_called {p = (c.loop-row.f, c.loop-row.total)} c.fold_row.ensures others));
      callable = callable_after {p = (c.loop-row.f, c.loop-row.total)} c.fold_row.ensures all;
    }

pub returns : goal.returns
returns g c =
    c.loop-row.invariant.folded c.loop-row.f c.loop-row.total
    (subst (λ items. HasFolded g.F.FnMut (c.loop-row.f, c.loop-row.total) items (c.loop-row.f, c.loop-row.total))
    (sym (ap rows_items c.in-None.ensures.steps.0)) none_called)
