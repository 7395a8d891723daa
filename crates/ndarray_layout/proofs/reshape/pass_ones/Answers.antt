use Rattle.std.proofs.Common.{◌<◌, ap, arith, length, sym, ◌∙◌, Some}
use Rattle.std.proofs.lemmas.List.{drop_all}
use Rattle.nd_base.proofs.Laws.AsRead.{length-as_read}
use Rattle.nd_base.proofs.Laws.Definitions.{as_read}
use Rattle.ndarray_layout.proofs.matching.Matched.{from-goes, none-longer, to-over-fault}
use Rattle.ndarray_layout.proofs.matching.Merged.{next-stride}
use Rattle.ndarray_layout.proofs.matching.Turns.{goes-through}
use Rattle.ndarray_layout.proofs.reshape.pass_ones.Goals as goal

pub returns-then-item-ne1-clause-fault : goal.returns-then-item-ne1-clause-fault
returns-then-item-ne1-clause-fault c =
    let both = c.args.both.now in
    let l = c.loop-from_axes in
    let over = c.requires.over (omega (arith, l.invariant.ahead, c.loop-from_axes-test.true)) in
    l.invariant.goes_on.fault
    ∙ to-over-fault l.invariant.goes_on.can_match
    (drop_all c.args.at.to_axes (as_read both.order both.to.now) (omega (arith, over, length-as_read both.order both.to.now)))
    c.item.ensures c.if-item-ne1.true
    ∙ ap Some (sym c.from_kind.ensures)

pub loop-from_axes-preserved : goal.loop-from_axes-preserved
loop-from_axes-preserved c =
    let both = c.args.both.now in
    let l = c.loop-from_axes in
    let strides = as_read both.order both.strides.now in
    let within : l.from_axes < length strides =
    omega (arith, length-as_read both.order both.strides.now, c.requires.same_count, c.loop-from_axes-test.true) in
    let over = c.requires.over (omega (arith, l.invariant.ahead, c.loop-from_axes-test.true)) in
    record {
      ahead = omega (arith, l.invariant.ahead);
      goes_on = goes-through l.invariant.goes_on (from-goes l.invariant.goes_on.can_match c.item.ensures
          (next-stride strides l.from_axes within) c.if-item-ne1.false (none-longer
          (drop_all c.args.at.to_axes (as_read both.order both.to.now) (omega (arith, over, length-as_read both.order both.to.now)))));
    }
