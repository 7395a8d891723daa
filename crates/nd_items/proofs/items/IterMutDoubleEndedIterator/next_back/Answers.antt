-- The item at the last of the places is lent, and those before it are left.
use Rattle.std.proofs.Common.{[], ◌∷◌, pos, ap, map, subst}
use Rattle.nd_access.specs.Items.{item_at_place}
use Rattle.nd_access.specs.Own.{AreOwn}
use Rattle.nd_access.proofs.Laws.OwnPlaces.{first_is_own, last_comes, others_are_own, own_swapped}
use Rattle.nd_items.proofs.items.IterMutDoubleEndedIterator.next_back.Goals as goal

pub take_slice-requires : goal.take_slice-requires
take_slice-requires g c =
    let self = c.args.self.now in
    first_is_own (own_swapped c.next_back.new.self (pos c.in_ok-place.place ∷ [])
    (subst (AreOwn self.cells.marks) c.in_ok-place.ensures.steps self.own))

pub invariant_of-self-2 : goal.invariant_of-self-2
invariant_of-self-2 g c =
    let self = c.args.self.now in
    record {
      own = rw c.take_slice.ensures.all.2 (others_are_own (own_swapped c.next_back.new.self (pos c.in_ok-place.place ∷ [])
          (subst (AreOwn self.cells.marks) c.in_ok-place.ensures.steps self.own)));
    }

pub returns-clause-steps : goal.returns-clause-steps
returns-clause-steps g c =
    let taken = c.take_slice.ensures.all in
    let items = c.args.self.now.cells.items in
    let rest = c.next_back.new.self in
    last_comes items c.take_slice.result.now c.in_ok-place.place rest _ _ c.first_mut.result
    (ap (map (item_at_place items)) c.in_ok-place.ensures.steps) (ap (λ xs. map (item_at_place xs) rest) taken.1) taken.0 taken.3
    c.first_mut.ensures.item
