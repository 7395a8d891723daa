-- One item more is folded.
use Rattle.std.proofs.Common.{refl, subst, sym}
use Rattle.std.specs.Iterator.{CallableInFold}
use Rattle.nd_items.specs.ItemsLeft.{items_left}
use Rattle.nd_access.specs.Lending.{lends_mut}
use Rattle.nd_access.specs.Folded.{HasFoldedMut}
use Rattle.ndarray_layout.proofs.Laws.Folding.{callable_after_first, first_called, first_may_be_called, none_called}
use Rattle.nd_items.proofs.items.IterMut.fold_each.Goals as goal

pub loop-item-init : goal.loop-item-init
loop-item-init g c =
    let same = c.into_iter-item-iterator.ensures.into_iter_gives in
    record {
      folded = λ h result folded.
          subst (λ it. HasFoldedMut g.F.FnMut (c.args.f, c.args.init) (items_left it) (h, result)) same folded;
      callable = subst (λ it. CallableInFold lends_mut g.F.FnMut (items_left it) c.args.f c.args.init) (sym same) c.requires;
    }

pub turn-requires : goal.turn-requires
turn-requires g c κs = ((refl, tt), first_may_be_called c.in-Some.item c.in-Some.ensures.steps c.loop-item.invariant.callable)

pub loop-item-preserved : goal.loop-item-preserved
loop-item-preserved g c = record {
  folded = λ h result others. c.loop-item.invariant.folded h result
      (first_called c.in-Some.item c.in-Some.ensures.steps c.turn.ensures others);
  callable = callable_after_first c.in-Some.item c.in-Some.ensures.steps c.turn.ensures c.loop-item.invariant.callable;
}

pub returns : goal.returns
returns g c =
    c.loop-item.invariant.folded c.loop-item.f c.loop-item.total
    (subst (λ items. HasFoldedMut g.F.FnMut (c.loop-item.f, c.loop-item.total) items (c.loop-item.f, c.loop-item.total))
    (sym c.in-None.ensures.steps.0) none_called)
