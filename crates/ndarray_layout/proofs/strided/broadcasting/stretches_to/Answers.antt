use Rattle.std.proofs.Common.{arith, sym}
use Rattle.ndarray_layout.proofs.Laws.BroadcastView.{takes_in_by_axes, takes_in_no_fewer, takes_in_no_other}
use Rattle.ndarray_layout.proofs.strided.broadcasting.stretches_to.Goals as goal

pub returns-then-view_shape-shape : goal.returns-then-view_shape-shape
returns-then-view_shape-shape c = sym (takes_in_no_fewer c.args.shape.now c.args.view_shape.now c.if-view_shape-shape.true)

pub returns-then-view_shape-axis-ne1 : goal.returns-then-view_shape-axis-ne1
returns-then-view_shape-axis-ne1 c = sym (takes_in_no_other c.args.shape.now c.args.view_shape.now c.loop-axis.axis c.loop-axis-test.true
    c.if-view_shape-axis.true c.if-view_shape-axis-ne1.true)

pub returns : goal.returns
returns c = sym (takes_in_by_axes c.args.shape.now c.args.view_shape.now c.if-view_shape-shape.false
    (λ k h. c.loop-axis.invariant k (omega arith)))
