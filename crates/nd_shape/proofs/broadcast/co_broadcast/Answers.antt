use Rattle.std.proofs.Common.{◌≡◌, ◌<◌, max, length, ◌∙◌, arith}
use Rattle.nd_base.specs.ShapeFault.{shape_fault}
use Rattle.nd_shape.specs.CommonShape.{common_shape_fault}
use Rattle.nd_shape.proofs.Laws.CommonShape.{common_shape-commutes, common_shape_fault-commutes}
use Rattle.nd_shape.proofs.broadcast.co_broadcast.Goals as goal

pub returns-then-lens-others-clause-fault : goal.returns-then-lens-others-clause-fault
returns-then-lens-others-clause-fault g c =
    let lens = g.First.Lengths.list c.args.shape1.now in
    let others = g.Second.Lengths.list c.args.shape2.now in
    let turned : shape_fault c.common_of.result ≡ common_shape_fault others lens =
    rw (c.slice-lens.ensures.list, c.slice-others.ensures.list) at c.common_of.ensures.fault in
    turned ∙ common_shape_fault-commutes others lens

pub returns-then-lens-others-clause-common : goal.returns-then-lens-others-clause-common
returns-then-lens-others-clause-common g c =
    let lens = g.First.Lengths.list c.args.shape1.now in
    let others = g.Second.Lengths.list c.args.shape2.now in
    rw (common_shape-commutes lens others) (rw (c.slice-lens.ensures.list, c.slice-others.ensures.list) at c.common_of.ensures.common)

pub returns-then-lens-others-clause-memory : goal.returns-then-lens-others-clause-memory
returns-then-lens-others-clause-memory g c none room =
    let lens = g.First.Lengths.list c.args.shape1.now in
    let others = g.Second.Lengths.list c.args.shape2.now in
    let less : length lens < length others = rw (c.slice-lens.ensures.list, c.slice-others.ensures.list) at c.if-lens-others.true in
    let count : max (length lens) (length others) ≡ length others = omega arith in
    (rw (c.slice-lens.ensures.list, c.slice-others.ensures.list) at c.common_of.ensures.memory)
    (common_shape_fault-commutes others lens ∙ none) (rw count at room)
