-- The item at the first of the places that are left comes, and the others are still read.
use Rattle.std.proofs.Common.{[], ◌∷◌, pos, sym, ◌∙◌}
use Rattle.nd_access.proofs.Laws.Read.{back_read, first_is, front_read, one_read}
use Rattle.nd_items.proofs.iterating.IterOfIterator.next.Goals as goal

pub get-requires : goal.get-requires
get-requires g c = one_read (front_read (pos c.in_ok-place.place ∷ []) c.next.new.self c.in_ok-place.ensures.steps c.self.invariant)

pub invariant_of-self-2 : goal.invariant_of-self-2
invariant_of-self-2 g c = back_read (pos c.in_ok-place.place ∷ []) c.next.new.self c.in_ok-place.ensures.steps c.self.invariant

pub returns-clause-steps : goal.returns-clause-steps
returns-clause-steps g c =
    sym c.self.view_is ∙ first_is c.self.inside.reader.items c.in_ok-place.place c.get.ensures c.in_ok-place.ensures.steps
