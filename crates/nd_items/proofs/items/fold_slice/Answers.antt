-- One item more is folded.
use Rattle.std.proofs.Common.{None, Some, arith, map, refl, subst, sym}
use Rattle.std.proofs.lemmas.List.{drop_all, length-map}
use Rattle.nd_access.specs.Folded.{HasFoldedMut}
use Rattle.nd_access.proofs.Laws.Folding.{item_of_slice}
use Rattle.ndarray_layout.proofs.Laws.Folding.{callable_after_first, comes_first, first_called, first_may_be_called, item_in_list}
use Rattle.ndarray_layout.proofs.Laws.Folding.{none_called}
use Rattle.nd_items.proofs.items.fold_slice.Goals as goal

pub turn-requires : goal.turn-requires
turn-requires g c κs =
    let at = item_of_slice c.args.items.now c.loop-item-test.true c.items-item.is in
    let is = comes_first (item_in_list None at.below at.is) in
    ((refl, tt), first_may_be_called _ is c.loop-item.invariant.callable)

pub loop-item-preserved : goal.loop-item-preserved
loop-item-preserved g c =
    let at = item_of_slice c.args.items.now c.loop-item-test.true c.items-item.is in
    let is = comes_first (item_in_list None at.below at.is) in
    record {
      folded = λ h result others. c.loop-item.invariant.folded h result (first_called _ is c.turn.ensures others);
      callable = callable_after_first _ is c.turn.ensures c.loop-item.invariant.callable;
    }

pub returns : goal.returns
returns g c =
    let all = map Some c.args.items.now in
    let none = drop_all c.loop-item.item-index all (omega (arith, length-map c.args.items.now Some, c.loop-item-test.false)) in
    c.loop-item.invariant.folded c.loop-item.f c.loop-item.total
    (subst (λ items. HasFoldedMut g.F.FnMut (c.loop-item.f, c.loop-item.total) items (c.loop-item.f, c.loop-item.total)) (sym none)
    none_called)
