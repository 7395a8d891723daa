use Rattle.std.proofs.Common.{arith}
use Rattle.ndarray_layout.proofs.Broadcasts.{WrittenByAxis, strides_by_axes}
use Rattle.ndarray_layout.proofs.strided.broadcasting.stretch_strides.Goals as goal

pub returns : goal.returns
returns c =
    let written : WrittenByAxis c.args.shape.now c.args.view_shape.now c.args.strides.now c.loop-axis.new_strides = record {
      count = c.loop-axis.invariant.count;
      front = c.loop-axis.invariant.front;
      after = λ k h. c.loop-axis.invariant.after k (omega arith);
    } in
    strides_by_axes c.requires.fewer c.requires.counts written
