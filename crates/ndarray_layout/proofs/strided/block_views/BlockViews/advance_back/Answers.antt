-- As many are left out of what is made as of what it is made of.
use Rattle.std.proofs.Common.{refl}
use Rattle.ndarray_layout.specs.BlocksView.{block_at}
use Rattle.ndarray_layout.specs.View.{IsView}
use Rattle.ndarray_layout.proofs.BlocksLeft.{left_of_taken, made_of_taken}
use Rattle.ndarray_layout.proofs.strided.block_views.BlockViews.advance_back.Goals as goal

pub invariant_of-self : goal.invariant_of-self
invariant_of-self g c =
    let self = c.self.inside in
    left_of_taken (block_at (g.D.Lengths.list self.block) self.view) self.starts refl IsView c.self.invariant c.args.count
    c.advance_back.ensures

pub returns : goal.returns
returns g c =
    let self = c.self.inside in
    made_of_taken (block_at (g.D.Lengths.list self.block) self.view) self.starts c.self.view_is c.args.count c.advance_back.ensures
