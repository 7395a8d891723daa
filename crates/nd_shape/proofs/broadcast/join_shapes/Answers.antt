use Rattle.std.proofs.Common.{is_some, ap, arith}
use Rattle.std.proofs.lemmas.Bool.{OnTrue_from}
use Rattle.std.proofs.lemmas.Bool.Decides.{same_from_decides}
use Rattle.nd_shape.proofs.CommonShapeByAxis.{common_shape_by_axes, common_shape_where_all, all_where_common_shape}
use Rattle.nd_shape.proofs.broadcast.join_shapes.Goals as goal

pub returns-clause-fits : goal.returns-clause-fits
returns-clause-fits c =
    let longer = c.args.longer.now in
    let shorter = c.args.shorter.now in
    same_from_decides _ _ (
      λ fits. common_shape_where_all longer shorter c.requires.shorter
          (λ k h. ap is_some (c.loop-axis.invariant.after_front fits k (omega arith))),
      λ some. c.loop-axis.invariant.whole (λ k h. all_where_common_shape longer shorter c.requires.shorter some k (omega arith)),
    )
    (λ some. some, λ some. some)

pub returns-clause-common : goal.returns-clause-common
returns-clause-common c =
    OnTrue_from _ _ (λ fits.
    common_shape_by_axes c.args.longer.now c.args.shorter.now c.loop-axis.common c.requires.shorter c.loop-axis.invariant.count
    c.loop-axis.invariant.front (λ k h. c.loop-axis.invariant.after_front fits k (omega arith)))
