-- The result at one item more is appended, for which there is room.
use Rattle.std.proofs.Common.{rules, ap, length, refl, arith}
use Rattle.std.specs.Fn.{CalledAt}
use Rattle.nd_access.proofs.Laws.Pushed.{all_left, all_pushed, first_pushed, takes_first}
use Rattle.nd_lent.proofs.array_view.copying.push_items.Goals as goal

pub loop-item-init : goal.loop-item-init
loop-item-init g c = record {
  are = all_left c.into_iter-item-iterator.ensures.into_iter_gives c.requires.callable;
  room = omega (arith, c.requires.room, ap length c.into_iter-item-iterator.ensures.into_iter_gives);
}

pub f-requires : goal.f-requires
f-requires g c = search (rules, takes_first c.in-Some.ensures.steps c.loop-item.invariant.are)

pub push_reserved-requires : goal.push_reserved-requires
push_reserved-requires g c = omega (arith, c.loop-item.invariant.room, ap length c.in-Some.ensures.steps)

pub loop-item-preserved : goal.loop-item-preserved
loop-item-preserved g c =
    let called : CalledAt g.F.FnMut c.loop-item.f c.in-Some.item.now c.f.result c.f.new.self =
    record { shown = _; shows = refl; called = c.f.ensures } in
    record {
      are = first_pushed c.f.result c.in-Some.ensures.steps called c.push_reserved.ensures.items c.loop-item.invariant.are;
      room = omega (
        arith,
        c.loop-item.invariant.room,
        c.push_reserved.ensures.len,
        c.push_reserved.ensures.capacity,
        ap length c.in-Some.ensures.steps,
      );
    }

pub returns : goal.returns
returns g c = (c.loop-item.f, all_pushed c.in-None.ensures.steps.0 c.loop-item.invariant.are)
