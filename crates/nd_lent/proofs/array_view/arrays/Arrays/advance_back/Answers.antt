-- As many are left out of the arrays as of the views.
use Rattle.std.proofs.Common.{◌-◌, length}
use Rattle.nd_lent.specs.Blocks.{array_over}
use Rattle.nd_access.specs.Read.{IsRead}
use Rattle.nd_lent.proofs.BlocksOf.{before_some}
use Rattle.nd_access.proofs.Laws.BothEnds.{made_of_taken}
use Rattle.nd_lent.proofs.array_view.arrays.Arrays.advance_back.Goals as goal

pub invariant_of-self : goal.invariant_of-self
invariant_of-self g c =
    let self = c.self.inside in
    let views = g.V.Views.left self.views in
    let others = g.V.Views.left c.advance_back.new.self in
    before_some (IsRead self.reader.marks (length self.reader.items)) views others c.self.invariant
    (length views - c.args.count) c.advance_back.ensures

pub returns : goal.returns
returns g c =
    let self = c.self.inside in
    let views = g.V.Views.left self.views in
    made_of_taken (array_over self.reader.items) c.args.count views c.advance_back.ensures c.self.view_is
