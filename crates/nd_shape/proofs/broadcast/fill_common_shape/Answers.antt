use Rattle.std.proofs.Common.{arith}
use Rattle.nd_shape.proofs.CommonShapeByAxis.{common_shape_by_axes, all_where_common_shape}
use Rattle.nd_shape.proofs.broadcast.fill_common_shape.Goals as goal

pub stretched-requires : goal.stretched-requires
stretched-requires c =
    all_where_common_shape c.args.longer.now c.args.shorter.now c.requires.shorter c.requires.fits c.loop-axis.axis c.loop-axis-test.true

pub returns : goal.returns
returns c =
    common_shape_by_axes c.args.longer.now c.args.shorter.now c.loop-axis.common c.requires.shorter c.loop-axis.invariant.count
    c.loop-axis.invariant.front (λ k h. c.loop-axis.invariant.after_front k (omega arith))
