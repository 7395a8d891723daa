-- All are left.
use Rattle.nd_lent.proofs.MadeByNumber.{all_at_first}
use Rattle.nd_lent.proofs.views.numbered.Numbered.new.Goals as goal

pub returns : goal.returns
returns g c = all_at_first (g.V.ByNumber.at c.args.views) (g.V.ByNumber.count c.args.views) c.requires
