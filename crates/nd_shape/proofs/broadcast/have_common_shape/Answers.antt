-- The loop's answer and that of the definition are yes together.
use Rattle.std.proofs.Common.{arith}
use Rattle.std.proofs.lemmas.Bool.Decides.{same_from_decides}
use Rattle.nd_shape.proofs.CommonShapeByAxis.{common_shape_where_all, all_where_common_shape}
use Rattle.nd_shape.proofs.broadcast.have_common_shape.Goals as goal

pub returns : goal.returns
returns c =
    let longer = c.args.longer.now in
    let shorter = c.args.shorter.now in
    let so_far = c.loop-axis.invariant.so_far in
    same_from_decides _ _ (
      λ fits. common_shape_where_all longer shorter c.requires (λ k h. so_far fits k (omega arith)),
      λ some. c.loop-axis.invariant.whole (λ k h. all_where_common_shape longer shorter c.requires some k (omega arith)),
    )
    (λ some. some, λ some. some)
