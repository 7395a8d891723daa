use Rattle.std.proofs.Common.{rules, ◌≡◌, ◌+◌, length, arith}
use Rattle.std.proofs.lemmas.List.{length_push}
use Rattle.nd_base.proofs.Laws.Definitions.{all_signed, signed, reach_down}
use Rattle.nd_base.proofs.Laws.Span.{sum_from, low_high_span}
use Rattle.nd_shape.proofs.SumLoop.{sum_at_turn, sum_at_end}
use Rattle.nd_shape.proofs.layout_start.low_span.Goals as goal
use Rattle.nd_shape.proofs.layout_start.low_span.Goals.{In-Some}

pub returns : goal.returns
returns c =
    let end : sum_from reach_down c.args.shape.now c.args.strides.now (length c.loop-len.yielded) ≡ 0 =
    sum_at_end reach_down c.args.shape.now c.args.strides.now c.loop-len.yielded c.into_iter-len-iterator.result c.loop-len.len-iterator
    c.next.new.self c.next.result
    (search rules) (search rules) c.loop-len.yielded_by c.in-None.is c.next.ensures.steps in
    omega arith

-- the reach of this axis, and that of those after it
step : (c : In-Some) → sum_from reach_down c.args.shape.now c.args.strides.now (length c.loop-len.yielded)
    ≡ reach_down c.in-Some.len.now (signed c.in-Some.stride.now) + sum_from reach_down c.args.shape.now c.args.strides.now
    (length c.loop-len.yielded + 1)
step c =
    sum_at_turn reach_down c.args.shape.now c.args.strides.now c.loop-len.yielded c.into_iter-len-iterator.result c.loop-len.len-iterator
    c.next.new.self c.next.result
    (search rules) (search rules) c.loop-len.yielded_by (c.in-Some.len, c.in-Some.stride) c.in-Some.is c.next.ensures.steps

pub reach_down-total-requires : goal.reach_down-total-requires
reach_down-total-requires c =
    let step = step (goal.at.reach_down-total-requires c).In-Some in
    omega (arith, low_high_span c.args.shape.now (all_signed c.args.strides.now))

pub overflow_add-total : goal.overflow_add-total
overflow_add-total c =
    let step = step (goal.at.overflow_add-total c).In-Some in
    omega (arith, low_high_span c.args.shape.now (all_signed c.args.strides.now))

pub loop-len-preserved : goal.loop-len-preserved
loop-len-preserved c =
    let step = step (goal.at.loop-len-preserved c).In-Some in
    rw length_push (omega arith)
