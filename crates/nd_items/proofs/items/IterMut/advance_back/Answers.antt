-- The places before so many are those of the items before as many.
use Rattle.std.proofs.Common.{◌-◌, length, map, take, sym, ap, subst, ◌∙◌}
use Rattle.std.proofs.lemmas.List.{length-map, take-map}
use Rattle.nd_access.specs.Items.{item_at_place}
use Rattle.nd_access.specs.Own.{AreOwn}
use Rattle.nd_access.proofs.Laws.OwnPlaces.{own_taken}
use Rattle.nd_items.proofs.items.IterMut.advance_back.Goals as goal

pub invariant_of-self : goal.invariant_of-self
invariant_of-self g c =
    let self = c.args.self.now in
    record {
      own = subst (AreOwn self.cells.marks) (sym c.advance_back.ensures)
          (own_taken (length self.places - c.args.count) self.places self.own);
    }

pub returns-clause-left : goal.returns-clause-left
returns-clause-left g c =
    let self = c.args.self.now in
    let item = item_at_place self.cells.items in
    ap (map item) c.advance_back.ensures
    ∙ sym (take-map item (length self.places - c.args.count) self.places)
    ∙ ap (λ n. take (n - c.args.count) (map item self.places)) (sym (length-map self.places item))
