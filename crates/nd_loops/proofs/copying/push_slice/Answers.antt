-- The result at one item more is appended.
use Rattle.std.proofs.Common.{rules, Some, map, refl, arith, ◌∙◌}
use Rattle.std.specs.Fn.{CalledAt}
use Rattle.std.proofs.lemmas.List.{drop_all, length-map}
use Rattle.nd_access.proofs.Laws.Pushed.{all_pushed, first_pushed, left_of_slice, takes_first}
use Rattle.nd_loops.proofs.copying.push_slice.Goals as goal

pub f-requires : goal.f-requires
f-requires g c =
    let first = left_of_slice c.args.items.now c.loop-item.item-index c.loop-item-test.true c.item-item.is in
    search (rules, takes_first first c.loop-item.invariant.are)

pub loop-item-preserved : goal.loop-item-preserved
loop-item-preserved g c =
    let first = left_of_slice c.args.items.now c.loop-item.item-index c.loop-item-test.true c.item-item.is in
    let called : CalledAt g.F.FnMut c.loop-item.f c.item-item.result c.f.result c.f.new.self =
    record { shown = _; shows = refl; called = c.f.ensures } in
    record {
      are = first_pushed c.f.result first called c.push_reserved.ensures.items c.loop-item.invariant.are;
      len = omega (arith, c.push_reserved.ensures.len, c.loop-item.invariant.len);
      capacity = c.push_reserved.ensures.capacity ∙ c.loop-item.invariant.capacity;
    }

pub returns-clause-pushed : goal.returns-clause-pushed
returns-clause-pushed g c =
    all_pushed (drop_all c.loop-item.item-index (map Some c.args.items.now)
    (omega (arith, length-map c.args.items.now Some, c.loop-item-test.false))) c.loop-item.invariant.are
