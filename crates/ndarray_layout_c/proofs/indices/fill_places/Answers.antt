-- At first none is written and all places of the view are to come, for each of which there is room.
use Rattle.std.proofs.Common.{◌≡◌, ◌++◌, ℤ, pos, List, length, map, take, arith, ap, ◌∙◌, inl}
use Rattle.std.specs.Iterator.Adapters.{enumerate_count, enumerate_source}
use Rattle.std.specs.declared.iter.Enumerate.{Enumerate}
use Rattle.ndarray_layout.proofs.Laws.View.{length-view_places, size_fits}
use Rattle.ndarray_layout_c.proofs.indices.fill_places.Goals as goal

-- none is counted yet, and all are to come
begins : {first items : Enumerate (List ℤ)} {left all : List ℤ} → first ≡ items → enumerate_count items ≡ 0
    → enumerate_source items ≡ left → left ≡ all → (enumerate_count first ≡ 0) × (enumerate_source first ≡ all)
begins same none source all = (ap enumerate_count same ∙ none, ap enumerate_source same ∙ source ∙ all)

pub loop-at-init-derived : goal.loop-at-init-derived
loop-at-init-derived c =
    let first = begins c.into_iter-at-iterator.ensures.into_iter_gives c.enumerate-at-items.ensures.count
    c.enumerate-at-items.ensures.source c.iter_places.ensures.items in
    let count = ap length first.1 ∙ length-view_places c.args.order c.args.view.now in
    ((tt, tt, inl (omega (arith, first.0, count, size_fits c.iter_places.ensures.is_view))), tt)

pub loop-at-init : goal.loop-at-init
loop-at-init c =
    let first = begins c.into_iter-at-iterator.ensures.into_iter_gives c.enumerate-at-items.ensures.count
    c.enumerate-at-items.ensures.source c.iter_places.ensures.items in
    let count = ap length first.1 ∙ length-view_places c.args.order c.args.view.now in
    record {
      room = omega (arith, first.0, count, c.requires);
      written = ap (λ n. map pos (take n c.args.places.now) ++ c.into_iter-at-iterator.result.iter) first.0 ∙ first.1;
    }
