-- As many are left out of the chunks as of the views.
use Rattle.std.proofs.Common.{◌-◌, length, ap}
use Rattle.nd_lent.specs.Blocks.{array_over}
use Rattle.nd_access.proofs.Laws.BothEnds.{made_of_taken}
use Rattle.nd_lent.specs.PartsValue.{PartsValue}
use Rattle.nd_lent.proofs.Tiles.{own_before}
use Rattle.nd_lent.proofs.array_view_mut.parts.Parts.advance_back.Goals as goal

pub invariant_of-self : goal.invariant_of-self
invariant_of-self g c =
    let self = c.self.inside in
    let views = g.V.Views.left self.views in
    own_before c.self.invariant (length views - c.args.count) c.advance_back.ensures

pub returns-clause-left : goal.returns-clause-left
returns-clause-left g c =
    let self = c.self.inside in
    let views = g.V.Views.left self.views in
    made_of_taken (array_over self.cells.items) c.args.count views c.advance_back.ensures
    (ap (λ (value : PartsValue g.row.T.Denot). value.arrays) c.self.view_is)
