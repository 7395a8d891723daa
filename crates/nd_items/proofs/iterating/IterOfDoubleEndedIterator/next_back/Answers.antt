-- The item at the last of the places that are left comes, and the others are still read.
use Rattle.std.proofs.Common.{[], ◌∷◌, pos, sym, ◌∙◌}
use Rattle.nd_access.proofs.Laws.Read.{back_read, front_read, last_is, one_read}
use Rattle.nd_items.proofs.iterating.IterOfDoubleEndedIterator.next_back.Goals as goal

pub get-requires : goal.get-requires
get-requires g c =
    one_read (back_read c.next_back.new.self (pos c.in_ok-place.place ∷ []) c.in_ok-place.ensures.steps c.self.invariant)

pub invariant_of-self-2 : goal.invariant_of-self-2
invariant_of-self-2 g c =
    front_read c.next_back.new.self (pos c.in_ok-place.place ∷ []) c.in_ok-place.ensures.steps c.self.invariant

pub returns-clause-steps : goal.returns-clause-steps
returns-clause-steps g c =
    sym c.self.view_is
    ∙ last_is c.self.inside.reader.items c.in_ok-place.place c.get.ensures c.next_back.new.self c.in_ok-place.ensures.steps
