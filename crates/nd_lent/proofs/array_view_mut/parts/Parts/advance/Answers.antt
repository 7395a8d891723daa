-- As many are left out of the chunks as of the views.
use Rattle.std.proofs.Common.{ap}
use Rattle.nd_lent.specs.Blocks.{array_over}
use Rattle.nd_access.proofs.Laws.BothEnds.{made_of_dropped}
use Rattle.nd_lent.specs.PartsValue.{PartsValue}
use Rattle.nd_lent.proofs.Tiles.{own_after}
use Rattle.nd_lent.proofs.array_view_mut.parts.Parts.advance.Goals as goal

pub invariant_of-self : goal.invariant_of-self
invariant_of-self g c = own_after c.self.invariant c.args.count c.advance.ensures

pub returns-clause-left : goal.returns-clause-left
returns-clause-left g c =
    let self = c.self.inside in
    let views = g.V.Views.left self.views in
    made_of_dropped (array_over self.cells.items) c.args.count views c.advance.ensures
    (ap (λ (value : PartsValue g.row.T.Denot). value.arrays) c.self.view_is)
