-- As many as there are items.
use Rattle.std.proofs.Common.{◌∙◌}
use Rattle.nd_items.proofs.Indexed.{many_left}
use Rattle.nd_items.proofs.indexed_of.IndexedOf.len.Goals as goal

pub returns : goal.returns
returns g c = let self = c.args.self.now in c.count_left.ensures ∙ many_left self.index (g.I.LentItems.left self.items) self.alike
