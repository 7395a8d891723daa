-- A cursor that has lent an index had one more.
use Rattle.std.proofs.Common.{length, sym, ap, ◌∙◌}
use Rattle.nd_base.specs.Dim.{lengths}
use Rattle.nd_shape.proofs.IndicesIteration.{after_within}
use Rattle.nd_shape.proofs.Laws.IndicesLeft.{length-indices_left}
use Rattle.nd_shape.proofs.indexes.cursor.Cursor.len.Goals as goal

pub returns : goal.returns
returns g c =
    let shape = lengths c.self.inside.dim in
    sym (length-indices_left g.O.IterOrder.order shape c.self.inside.left
    (after_within g.O.IterOrder.order shape (lengths c.self.inside.index) c.self.inside.is_lent c.self.inside.left c.self.invariant))
    ∙ ap length c.self.view_is
