-- The result at one item more is appended, the last that is left.
use Rattle.std.proofs.Common.{◌≡◌, ◌+◌, Some, [], ◌∷◌, ap, length, map, refl, reverse, rules, vec_len, ◌∙◌, arith}
use Rattle.std.specs.Fn.{CalledAt}
use Rattle.std.proofs.lemmas.List.{length-append}
use Rattle.nd_access.proofs.Laws.Pushed.{all_left, all_pushed, first_pushed, takes_first}
use Rattle.nd_loops.proofs.FoldedBack.{last_comes_first, none_are_left}
use Rattle.nd_loops.proofs.copying.push_backwards.Given.{Over}
use Rattle.nd_loops.proofs.copying.push_backwards.Goals as goal
use Rattle.nd_loops.proofs.copying.push_backwards.Goals.{After-into_iter-item-iterator}

all : (g : Over) (c : After-into_iter-item-iterator g) → c.into_iter-item-iterator.result.iter.rest.now ≡ c.args.items.now
all g c =
    ap (λ it. it.iter.rest.now) c.into_iter-item-iterator.ensures.into_iter_gives
    ∙ ap (λ it. it.rest.now) c.rev-item-items.ensures.source
    ∙ c.iter.ensures.rest

pub loop-item-init : goal.loop-item-init
loop-item-init g c = record {
  are = all_left (ap (λ items. reverse (map Some items)) (all g c)) c.requires.callable;
  len = ap (λ items. vec_len c.args.made + length items) (all g c);
  capacity = refl;
}

pub f-requires : goal.f-requires
f-requires g c =
    let first = last_comes_first c.next.new.self.iter.rest.now c.in-Some.ensures.steps in
    search (rules, takes_first first c.loop-item.invariant.are)

pub push_reserved-requires : goal.push_reserved-requires
push_reserved-requires g c = omega (
  arith,
  c.requires.room,
  c.loop-item.invariant.len,
  c.loop-item.invariant.capacity,
  ap length c.in-Some.ensures.steps,
  length-append c.next.new.self.iter.rest.now (c.in-Some.item.now ∷ []),
)

pub loop-item-preserved : goal.loop-item-preserved
loop-item-preserved g c =
    let first = last_comes_first c.next.new.self.iter.rest.now c.in-Some.ensures.steps in
    let called : CalledAt g.F.FnMut c.loop-item.f c.in-Some.item.now c.f.result c.f.new.self =
    record { shown = _; shows = refl; called = c.f.ensures } in
    record {
      are = first_pushed c.f.result first called c.push_reserved.ensures.items c.loop-item.invariant.are;
      len = omega (
        arith,
        c.push_reserved.ensures.len,
        c.loop-item.invariant.len,
        ap length c.in-Some.ensures.steps,
        length-append c.next.new.self.iter.rest.now (c.in-Some.item.now ∷ []),
      );
      capacity = c.push_reserved.ensures.capacity ∙ c.loop-item.invariant.capacity;
    }

pub returns-clause-pushed : goal.returns-clause-pushed
returns-clause-pushed g c =
    all_pushed (none_are_left c.loop-item.item-iterator.iter.rest.now c.in-None.ensures.steps.0) c.loop-item.invariant.are

pub returns-clause-len : goal.returns-clause-len
returns-clause-len g c = omega (arith, c.loop-item.invariant.len, c.in-None.ensures.steps.0)
