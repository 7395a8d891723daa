use Rattle.std.proofs.Common.{cond, Some, None, length, ap, sym, ◌∙◌, arith}
use Rattle.nd_shape.proofs.IndicesIteration.{within_shape}
use Rattle.nd_shape.proofs.Laws.IndicesLeft.{length-indices_left}
use Rattle.nd_shape.proofs.indexes.indices_iter.IndexIterIterator.size_hint.Goals as goal

pub returns-clause-exact : goal.returns-clause-exact
returns-clause-exact g c =
    let left = sym (length-indices_left g.O.IterOrder.order (g.D.Lengths.list c.self.inside.dim) c.self.inside.left
    (within_shape g.O.IterOrder.order (g.D.Lengths.list c.self.inside.dim) c.self.inside.left
    (cond c.self.inside.has_remaining (Some (g.D.Lengths.list c.self.inside.index)) None) c.self.invariant))
    ∙ ap length c.self.view_is in
    (left, ap Some left)

pub returns-clause-lower : goal.returns-clause-lower
returns-clause-lower g c = λ _. omega (arith, (returns-clause-exact g c).0)

pub returns-clause-upper : goal.returns-clause-upper
returns-clause-upper g c = (tt, omega (arith, (returns-clause-exact g c).0))
