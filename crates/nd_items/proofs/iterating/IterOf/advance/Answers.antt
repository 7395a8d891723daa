-- As many are left out of what is made as of what it is made of.
use Rattle.nd_access.specs.Items.{item_at_place}
use Rattle.nd_access.proofs.Laws.BothEnds.{made_of_dropped}
use Rattle.nd_items.proofs.iterating.IterOf.advance.Goals as goal

pub returns : goal.returns
returns g c = made_of_dropped (item_at_place c.self.inside.reader.items) c.args.count c.self.inside.places c.advance.ensures c.self.view_is
