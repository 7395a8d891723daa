-- As many as lie between.
use Rattle.nd_lent.proofs.MadeByNumber.{many_left}
use Rattle.nd_lent.proofs.views.numbered.NumberedViews.len.Goals as goal

pub returns : goal.returns
returns g c =
    let self = c.self.inside in
    let at = g.V.ByNumber.at self.views in
    let count = g.V.ByNumber.count self.views in
    many_left at count self.begun self.end c.self.invariant.0 c.self.invariant.1 c.self.view_is
