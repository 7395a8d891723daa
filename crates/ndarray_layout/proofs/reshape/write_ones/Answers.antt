use Rattle.std.proofs.Common.{◌+◌, ap, arith, sym, ◌∙◌, Some}
use Rattle.std.proofs.lemmas.List.{drop_all, length-drop}
use Rattle.nd_base.proofs.Laws.AsRead.{length-as_read}
use Rattle.nd_base.proofs.Laws.Definitions.{as_read}
use Rattle.ndarray_layout.proofs.matching.Matched.{from-over-fault, none-longer, to-read, turn-through}
use Rattle.ndarray_layout.proofs.reshape.write_ones.Goals as goal

pub returns-then-item-ne1-clause-fault : goal.returns-then-item-ne1-clause-fault
returns-then-item-ne1-clause-fault c =
    let both = c.args.both.now in
    let turn = c.loop-axis.invariant.turn in
    turn.goes_on.fault
    ∙ from-over-fault turn.goes_on.can_match
    (drop_all c.args.at.from_axes (as_read both.order both.from.now)
    (omega (arith, c.requires.over, length-as_read both.order both.from.now)))
    c.item.ensures c.if-item-ne1.true
    ∙ ap Some (sym c.from_kind.ensures)

pub loop-axis-preserved : goal.loop-axis-preserved
loop-axis-preserved c =
    let both = c.args.both.now in
    let v = c.loop-axis.invariant in
    let from = as_read both.order both.from.now in
    let to = as_read both.order both.to.now in
    let over = none-longer (drop_all c.args.at.from_axes from (omega (arith, c.requires.over, length-as_read both.order both.from.now))) in
    record {
      turn = turn-through v.turn (to-read v.turn.goes_on.can_match c.item.ensures c.if-item-ne1.false over
          (omega (arith, v.room, length-drop (c.loop-axis.axis + 1) to, length-as_read both.order both.to.now)) c.write.ensures.written);
      room = c.write.ensures.room ∙ v.room;
    }
