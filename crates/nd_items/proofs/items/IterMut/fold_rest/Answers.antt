-- The items of one row more are folded.
use Rattle.std.proofs.Common.{refl, subst, sym}
use Rattle.std.specs.Iterator.{CallableInFold}
use Rattle.nd_access.specs.Items.{items_of}
use Rattle.nd_items.specs.ItemsLeft.{items_left}
use Rattle.nd_access.specs.Lending.{lends_mut}
use Rattle.nd_access.specs.Folded.{HasFoldedMut}
use Rattle.ndarray_layout.proofs.Laws.Folding.{all_folded, both_called, callable_after, callable_in_part, none_called}
use Rattle.nd_items.proofs.items.IterMut.fold_rest.Goals as goal

pub fold_part-requires : goal.fold_part-requires
fold_part-requires g c κs =
    let all = subst (λ items. CallableInFold lends_mut g.F.FnMut items c.loop-cells.f c.loop-cells.total) c.in-Some.ensures.row
    c.loop-cells.invariant.callable in
    let here = items_of (record { items = c.in-Some.cells.items; view = c.in-Some.view }) in
    ((refl, tt), (c.in-Some.ensures.part, callable_in_part here (items_left c.next_part.new.self) all))

pub loop-cells-preserved : goal.loop-cells-preserved
loop-cells-preserved g c =
    let all = subst (λ items. CallableInFold lends_mut g.F.FnMut items c.loop-cells.f c.loop-cells.total) c.in-Some.ensures.row
    c.loop-cells.invariant.callable in
    record {
      folded = λ h result others. c.loop-cells.invariant.folded h result
          (subst (λ items. HasFoldedMut g.F.FnMut (c.loop-cells.f, c.loop-cells.total) items (h, result)) (sym c.in-Some.ensures.row)
          (both_called c.fold_part.ensures others));
      callable = callable_after c.fold_part.ensures all;
    }

pub fold_each-total-requires : goal.fold_each-total-requires
fold_each-total-requires g c κs =
    let all = subst (λ items. CallableInFold lends_mut g.F.FnMut items c.loop-cells.f c.loop-cells.total) c.in-Some.ensures.row
    c.loop-cells.invariant.callable in
    ((refl, tt), callable_after c.fold_part.ensures all)

pub returns-then-is_short : goal.returns-then-is_short
returns-then-is_short g c =
    let h = c.fold_each-total.result.1 in
    let result = c.fold_each-total.result.0 in
    record {
      ran = all_folded {h = h} (c.loop-cells.invariant.folded h result
          (subst (λ items. HasFoldedMut g.F.FnMut (c.loop-cells.f, c.loop-cells.total) items (h, result)) (sym c.in-Some.ensures.row)
          (both_called c.fold_part.ensures c.fold_each-total.ensures)));
    }

pub returns : goal.returns
returns g c = record {
  ran = all_folded (c.loop-cells.invariant.folded c.loop-cells.f c.loop-cells.total
      (subst (λ items. HasFoldedMut g.F.FnMut (c.loop-cells.f, c.loop-cells.total) items (c.loop-cells.f, c.loop-cells.total))
      (sym c.in_default.ensures.row.0) none_called));
}
