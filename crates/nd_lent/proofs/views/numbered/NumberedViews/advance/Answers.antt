-- The others remain.
use Rattle.nd_lent.proofs.MadeByNumber.{left_advanced}
use Rattle.nd_lent.proofs.views.numbered.NumberedViews.advance.Goals as goal

pub returns : goal.returns
returns g c =
    let self = c.self.inside in
    let at = g.V.ByNumber.at self.views in
    let count = g.V.ByNumber.count self.views in
    left_advanced at count self.begun self.end c.self.invariant.0 c.self.invariant.1 c.self.view_is c.args.count c.min.ensures
