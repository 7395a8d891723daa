-- The places after so many are those of the items after as many.
use Rattle.std.proofs.Common.{map, sym, ap, subst, ◌∙◌}
use Rattle.std.proofs.lemmas.List.{drop-map}
use Rattle.nd_access.specs.Items.{item_at_place}
use Rattle.nd_access.specs.Own.{AreOwn}
use Rattle.nd_access.proofs.Laws.OwnPlaces.{own_dropped}
use Rattle.nd_items.proofs.items.IterMut.advance.Goals as goal

pub invariant_of-self : goal.invariant_of-self
invariant_of-self g c =
    let self = c.args.self.now in
    record { own = subst (AreOwn self.cells.marks) (sym c.advance.ensures) (own_dropped c.args.count self.places self.own) }

pub returns-clause-left : goal.returns-clause-left
returns-clause-left g c =
    let self = c.args.self.now in
    let item = item_at_place self.cells.items in
    ap (map item) c.advance.ensures ∙ sym (drop-map item c.args.count self.places)
