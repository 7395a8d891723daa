-- At first the places are those of the part.
use Rattle.std.proofs.Common.{sym, subst}
use Rattle.nd_access.specs.Own.{AreOwn}
use Rattle.nd_access.proofs.Laws.OwnPlaces.{own_of_part}
use Rattle.nd_items.proofs.items.IterMut.of_cells.Goals as goal

pub invariant_of-result : goal.invariant_of-result
invariant_of-result g c =
    let marks = c.args.cells.marks in
    record { own = subst (AreOwn marks) (sym c.into_places.ensures.items) (own_of_part marks c.args.view c.requires) }
