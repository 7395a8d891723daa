use Rattle.std.proofs.Common.{cond, Some, None, length, ap, sym, ◌∙◌}
use Rattle.nd_shape.proofs.IndicesIteration.{within_shape}
use Rattle.nd_shape.proofs.Laws.IndicesLeft.{length-indices_left}
use Rattle.nd_shape.proofs.indexes.indices_iter.IndexIterExactSizeIterator.len.Goals as goal

pub returns-clause-value : goal.returns-clause-value
returns-clause-value g c =
    sym (length-indices_left g.O.IterOrder.order (g.D.Lengths.list c.self.inside.dim) c.self.inside.left
    (within_shape g.O.IterOrder.order (g.D.Lengths.list c.self.inside.dim) c.self.inside.left
    (cond c.self.inside.has_remaining (Some (g.D.Lengths.list c.self.inside.index)) None) c.self.invariant)) ∙ ap length c.self.view_is
