-- The item at the next place is taken, and those at the others are left.
use Rattle.std.proofs.Common.{length, ap, arith}
use Rattle.nd_owned.proofs.Left.{first_taken, others_distinct, some_of_first, some_of_others}
use Rattle.nd_owned.proofs.owned.taking.take_items.Goals as goal

pub take_item-taken-requires-clause-left : goal.take_item-taken-requires-clause-left
take_item-taken-requires-clause-left g c =
    some_of_first c.loop-place.left c.in-Some.place c.in-Some.ensures.steps c.loop-place.invariant.distinct c.loop-place.invariant.left

pub take_item-taken-requires-clause-room : goal.take_item-taken-requires-clause-room
take_item-taken-requires-clause-room g c = omega (arith, c.loop-place.invariant.room, ap length c.in-Some.ensures.steps)

pub loop-place-preserved : goal.loop-place-preserved
loop-place-preserved g c =
    let left = c.loop-place.left in
    let place = c.in-Some.place in
    let steps = c.in-Some.ensures.steps in
    let before = c.loop-place.invariant in
    let took = c.take_item-taken.ensures in
    record {
      items = first_taken left place steps before.distinct c.loop-place.taken.items c.take_item-taken.result.items took.left took.items
          before.items;
      left = some_of_others left place steps before.distinct took.left before.left;
      distinct = others_distinct left place steps before.distinct;
      room = omega (arith, before.room, took.len, took.capacity, ap length steps);
    }
