use Rattle.std.proofs.Common.{rules, ◌≡◌, ◌+◌, length, arith}
use Rattle.std.proofs.lemmas.List.{length_push}
use Rattle.nd_base.proofs.Laws.Definitions.{signed, reach}
use Rattle.nd_base.proofs.Laws.Span.{sum_from}
use Rattle.nd_shape.proofs.SumLoop.{sum_at_turn, sum_at_end}
use Rattle.nd_shape.proofs.size_limits.checked_span.Goals as goal
use Rattle.nd_shape.proofs.size_limits.checked_span.Goals.{In-Some}

pub returns : goal.returns
returns c =
    let end : sum_from reach c.args.shape.now c.args.strides.now (length c.loop-len.yielded) ≡ 0 =
    sum_at_end reach c.args.shape.now c.args.strides.now c.loop-len.yielded c.into_iter-len-iterator.result c.loop-len.len-iterator
    c.next.new.self c.next.result
    (search rules) (search rules) c.loop-len.yielded_by c.in-None.is c.next.ensures.steps in
    (omega arith, omega arith)

-- the reach of this axis, and that of those after it
step : (c : In-Some) → sum_from reach c.args.shape.now c.args.strides.now (length c.loop-len.yielded)
    ≡ reach c.in-Some.len.now (signed c.in-Some.stride.now) + sum_from reach c.args.shape.now c.args.strides.now
    (length c.loop-len.yielded + 1)
step c =
    sum_at_turn reach c.args.shape.now c.args.strides.now c.loop-len.yielded c.into_iter-len-iterator.result c.loop-len.len-iterator
    c.next.new.self c.next.result
    (search rules) (search rules) c.loop-len.yielded_by (c.in-Some.len, c.in-Some.stride) c.in-Some.is c.next.ensures.steps

pub returns-in_err-span : goal.returns-in_err-span
returns-in_err-span c =
    let step = step (goal.at.returns-in_err-span c).In-Some in
    let reached = c.in_ok-checked_reach.ensures in
    rw c.from_residual-in_err-span.ensures (λ small. c.in_err-span.ensures (omega (arith, reached)))

pub returns-in_err-checked_reach : goal.returns-in_err-checked_reach
returns-in_err-checked_reach c =
    let step = step (goal.at.returns-in_err-checked_reach c).In-Some in
    rw c.from_residual.ensures (λ small. c.in_err-checked_reach.ensures (omega arith))

pub loop-len-preserved : goal.loop-len-preserved
loop-len-preserved c =
    let step = step (goal.at.loop-len-preserved c).In-Some in
    let reached = c.in_ok-checked_reach.ensures in
    let added = c.in_ok-span.ensures in
    record {
      fits = omega (arith, reached, added);
      sum = rw length_push (omega (arith, reached, added, step));
    }
