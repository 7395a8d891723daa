-- As many are left out of what is made as of what it is made of.
use Rattle.nd_access.specs.Items.{item_at_place}
use Rattle.nd_access.proofs.Laws.BothEnds.{made_of_taken}
use Rattle.nd_items.proofs.iterating.IterOf.advance_back.Goals as goal

pub returns : goal.returns
returns g c =
    made_of_taken (item_at_place c.self.inside.reader.items) c.args.count c.self.inside.places c.advance_back.ensures c.self.view_is
