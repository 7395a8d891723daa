-- As many are left out of the arrays as of the views.
use Rattle.std.proofs.Common.{length}
use Rattle.nd_lent.specs.Blocks.{array_over}
use Rattle.nd_access.specs.Read.{IsRead}
use Rattle.nd_lent.proofs.BlocksOf.{after_some}
use Rattle.nd_access.proofs.Laws.BothEnds.{made_of_dropped}
use Rattle.nd_lent.proofs.array_view.arrays.Arrays.advance.Goals as goal

pub invariant_of-self : goal.invariant_of-self
invariant_of-self g c =
    let self = c.self.inside in
    let views = g.V.Views.left self.views in
    let others = g.V.Views.left c.advance.new.self in
    after_some (IsRead self.reader.marks (length self.reader.items)) views others c.self.invariant c.args.count
    c.advance.ensures

pub returns : goal.returns
returns g c =
    let self = c.self.inside in
    let views = g.V.Views.left self.views in
    made_of_dropped (array_over self.reader.items) c.args.count views c.advance.ensures c.self.view_is
