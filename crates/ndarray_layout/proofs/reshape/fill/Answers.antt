use Rattle.std.proofs.Common.{ap, arith, drop, length, sym, ◌∙◌}
use Rattle.std.proofs.lemmas.List.{drop_all}
use Rattle.nd_base.proofs.Laws.AsRead.{length-as_read}
use Rattle.nd_base.proofs.Laws.Definitions.{as_read}
use Rattle.ndarray_layout.proofs.matching.Matched.{all-strides, turn-passed, turn-through}
use Rattle.ndarray_layout.proofs.reshape.fill.Goals as goal

pub loop-at-preserved : goal.loop-at-preserved
loop-at-preserved c = record {
  turn = turn-through c.loop-at.invariant.turn c.in_ok-at.ensures.turn;
  room = c.in_ok-at.ensures.room ∙ c.loop-at.invariant.room;
}

pub returns-clause-strides : goal.returns-clause-strides
returns-clause-strides c =
    let both = c.args.both.now in
    let from = as_read both.order both.from.now in
    let to = as_read both.order both.to.now in
    let passed = c.in_ok-at-2.ensures in
    let through = turn-through c.loop-at.invariant.turn (turn-passed (as_read both.order c.loop-at.out)
    (sym (ap (λ k. drop k to) passed.over.1)) passed.goes_on) in
    all-strides (turn-through through c.in_ok-write_ones.ensures.turn)
    (drop_all c.in_ok-at-2.at.from_axes from (omega (arith, passed.over.0, length-as_read both.order both.from.now)))
    (drop_all (length both.to.now) to (omega (arith, length-as_read both.order both.to.now)))
    (omega (arith, c.requires.room, length-as_read both.order both.to.now, length-as_read both.order c.args.out.now))
