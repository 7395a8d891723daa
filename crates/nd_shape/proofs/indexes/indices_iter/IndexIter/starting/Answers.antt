-- At first all indices are left.
use Rattle.std.proofs.Common.{ap, ◌∙◌}
use Rattle.nd_base.specs.Size.{size}
use Rattle.nd_shape.specs.IndicesLeft.{indices_left}
use Rattle.nd_shape.proofs.IndicesIteration.{starts_at}
use Rattle.nd_shape.proofs.Laws.IndicesLeft.{indices_left-whole}
use Rattle.nd_shape.proofs.indexes.indices_iter.IndexIter.starting.Goals as goal

pub invariant_of-result : goal.invariant_of-result
invariant_of-result g c =
    let shape = g.D.Lengths.list c.args.dim in
    starts_at g.O.IterOrder.order shape (g.D.Lengths.list c.args.first) c.product-left.result c.requires.first
    (c.product-left.ensures ∙ ap size c.slice.ensures.list)

pub returns : goal.returns
returns g c =
    let shape = g.D.Lengths.list c.args.dim in
    record {
      items = ap (indices_left g.O.IterOrder.order shape) (c.product-left.ensures ∙ ap size c.slice.ensures.list)
          ∙ indices_left-whole g.O.IterOrder.order shape;
    }
