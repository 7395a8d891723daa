-- One item more is folded, the last that is left.
use Rattle.std.proofs.Common.{◌≡◌, Some, ap, map, refl, reverse, subst, sym, ◌∙◌}
use Rattle.std.specs.Iterator.{CallableInFold}
use Rattle.nd_access.specs.Lending.{lends}
use Rattle.nd_access.specs.Folded.{HasFolded}
use Rattle.nd_loops.proofs.FoldedBack.{last_comes_first, none_are_left}
use Rattle.nd_access.proofs.Laws.Folding.{callable_after_first, first_called, first_may_be_called, none_called}
use Rattle.nd_loops.proofs.folding.rfold_slice.Given.{Over}
use Rattle.nd_loops.proofs.folding.rfold_slice.Goals as goal
use Rattle.nd_loops.proofs.folding.rfold_slice.Goals.{After-into_iter-item-iterator}

all : (g : Over) (c : After-into_iter-item-iterator g) → c.into_iter-item-iterator.result.iter.rest.now ≡ c.args.items.now
all g c =
    ap (λ it. it.iter.rest.now) c.into_iter-item-iterator.ensures.into_iter_gives
    ∙ ap (λ it. it.rest.now) c.rev-item-items.ensures.source
    ∙ c.iter.ensures.rest

pub loop-item-init : goal.loop-item-init
loop-item-init g c = record {
  folded = λ h result folded.
      subst (λ items. HasFolded g.F.FnMut (c.args.f, c.args.init) (reverse (map Some items)) (h, result)) (all g c) folded;
  callable = subst (λ items. CallableInFold lends g.F.FnMut (reverse (map Some items)) c.args.f c.args.init) (sym (all g c)) c.requires;
}

pub turn-requires : goal.turn-requires
turn-requires g c κs = (
  (refl, tt),
  first_may_be_called c.in-Some.item (last_comes_first c.next.new.self.iter.rest.now c.in-Some.ensures.steps)
      c.loop-item.invariant.callable,
)

pub loop-item-preserved : goal.loop-item-preserved
loop-item-preserved g c =
    let is = last_comes_first c.next.new.self.iter.rest.now c.in-Some.ensures.steps in
    record {
      folded = λ h result others. c.loop-item.invariant.folded h result (first_called c.in-Some.item is c.turn.ensures others);
      callable = callable_after_first c.in-Some.item is c.turn.ensures c.loop-item.invariant.callable;
    }

pub returns : goal.returns
returns g c =
    c.loop-item.invariant.folded c.loop-item.f c.loop-item.total
    (subst (λ items. HasFolded g.F.FnMut (c.loop-item.f, c.loop-item.total) items (c.loop-item.f, c.loop-item.total))
    (sym (none_are_left c.loop-item.item-iterator.iter.rest.now c.in-None.ensures.steps.0)) none_called)
