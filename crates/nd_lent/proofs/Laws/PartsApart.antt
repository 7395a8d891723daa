-- Laws of any number of parts that share no place, which are taken one after another, written, and put back: each index of a part has the
-- item that is given for it, and every other item is as before. A list has what a caller keeps of each part, as its view and its item.
use Rattle.std.proofs.Common.{◌≡◌, ℕ, zero, suc, ◌<◌, ℤ, pos, negsuc, Bool, true, false, Option, List, [], ◌∷◌, length}
use Rattle.std.proofs.Common.{◌+◌, get_or, take, refl, sym, subst, ◌∙◌, arith}
use Rattle.std.specs.List.{All, AllPairs, Contains}
use Rattle.std.specs.Prelude.{replicate, slice_get}
use Rattle.std.proofs.lemmas.Bool.{false≢true}
use Rattle.std.proofs.lemmas.List.{get_or-take, length-take, take_all}
use Rattle.std.proofs.lemmas.List.Elements.{All-cons, All-head, All-more, All-tail}
use Rattle.ndarray_layout.specs.declared.Order.TheVariants.{RowMajor}
use Rattle.ndarray_layout.specs.Bounds.{IsInBounds}
use Rattle.ndarray_layout.specs.Indices.{is_index}
use Rattle.ndarray_layout.specs.SharePlace.{SharePlace}
use Rattle.ndarray_layout.specs.View.{View, LiesWithin, place_at, view_places}
use Rattle.ndarray_layout.proofs.Laws.SharePlace.{share_place_symmetric}
use Rattle.nd_lent.proofs.Laws.FlatItems.{item_of_index}
use Rattle.nd_access.proofs.Laws.Lists.{other_default, pairs_head, pairs_tail}
use Rattle.nd_access.proofs.Laws.Marks.{owned_is_part, part_beside}
use Rattle.nd_lent.proofs.Laws.SlicePlaces.{listed}
use Rattle.nd_access.specs.Cells.{without}
use Rattle.nd_access.specs.HasItems.{HasItemsOf}
use Rattle.nd_access.specs.Items.{IsOwned, item_at, item_at_place}
use Rattle.nd_access.specs.Part.{IsPart, has_mark, marks_of}

-- each index of a part lies within as many items as there are marks
below_marks : (marks : List Bool) (k : ℕ) → get_or marks k false ≡ true → k < length marks
below_marks [] k h = absurd (false≢true h)
below_marks (m ∷ marks) zero h = omega arith
below_marks (m ∷ marks) (suc k) h = let below = below_marks marks k h in omega (arith, below)

marked_within : (marks : List Bool) (at : ℤ) → has_mark marks at ≡ true → IsInBounds (length marks) at
marked_within marks (pos place) mine = below_marks marks place mine
marked_within marks (negsuc below) none = absurd (false≢true none)

pub part_lies_within : (marks : List Bool) (view : View) → IsPart marks view → LiesWithin (length marks) view
part_lies_within marks view part index here = marked_within marks (place_at view index) (part.marked index here)

module _ {X : Type 0} (view : X → View) where
  -- no two share a place
  abbrev pub AreApart : List X → Type 0
  AreApart parts = AllPairs (λ one other. SharePlace (view one) (view other) → ⊥) parts

  -- ---- taken
  -- parts of which no two share a place
  pub record AreParts (marks : List Bool) (parts : List X) : Type 0 where
    pub each : All (λ part. IsPart marks (view part)) parts
    pub apart : AreApart parts

  -- of all items
  pub owned_are_parts : (count : ℕ) (parts : List X) → All (λ part. IsOwned count (view part)) parts → AreApart parts
      → AreParts (replicate count true) parts
  owned_are_parts count parts owned apart =
      record { each = λ k d below. owned_is_part count (view (get_or parts k d)) (owned k d below); apart = apart }

  module _ (marks : List Bool) (part : X) (parts : List X) (are : AreParts marks (part ∷ parts)) where
    pub first_is_part : IsPart marks (view part)
    first_is_part = All-head (λ other. IsPart marks (view other)) part parts are.each

    pub first_is_apart : All (λ other. SharePlace (view part) (view other) → ⊥) parts
    first_is_apart = pairs_head (λ one other. SharePlace (view one) (view other) → ⊥) part parts are.apart

    -- once the first is taken, the others are parts of what is left
    pub others_are_parts : AreParts (without (marks_of (length marks) (view part)) marks) parts
    others_are_parts = record {
      each = λ k d below.
          part_beside marks (view part) (view (get_or parts k d)) first_is_part
          (All-tail (λ other. IsPart marks (view other)) part parts are.each k d below)
          (first_is_apart k d below);
      apart = pairs_tail (λ one other. SharePlace (view one) (view other) → ⊥) part parts are.apart;
    }

  -- ---- written
  module _ {T : Type 0} (given : X → List ℕ → Option T) where
    -- each index of the part has the item that is given for it
    abbrev pub HasItemsGiven : List T → X → Type 0
    HasItemsGiven items part = (index : List ℕ) → is_index (view part).shape index ≡ true
        → item_at (record { items = items; view = view part }) index ≡ given part index

    -- a place is one of no index of the part
    abbrev pub IsElsewhere : ℕ → X → Type 0
    IsElsewhere place part = Contains (view_places RowMajor (view part)) (pos place) → ⊥

    -- each part has its items, and every other item is as before
    pub record AreSet (parts : List X) (old new : List T) : Type 0 where
      pub count : length new ≡ length old
      pub each : All (HasItemsGiven new) parts
      pub others : (place : ℕ) → All (IsElsewhere place) parts → slice_get new place ≡ slice_get old place

    pub none_set : (items : List T) → AreSet [] items items
    none_set items = record { count = refl; each = λ k d below. absurd (omega (arith, below)); others = λ place free. refl }

    -- so many of the parts have their items, and every other item is as before
    pub record AreSetUpTo (many : ℕ) (parts : List X) (old new : List T) : Type 0 where
      pub count : length new ≡ length old
      pub each : All (HasItemsGiven new) (take many parts)
      pub others : (place : ℕ) → All (IsElsewhere place) parts → slice_get new place ≡ slice_get old place

    pub none_set_yet : (parts : List X) (items : List T) → AreSetUpTo 0 parts items items
    none_set_yet parts items = record { count = refl; each = λ k d below. absurd (omega (arith, below)); others = λ place free. refl }

    -- in the end all
    pub all_set : (parts : List X) (old new : List T) → AreSetUpTo (length parts) parts old new → All (HasItemsGiven new) parts
    all_set parts old new so_far = subst (All (HasItemsGiven new)) (take_all (length parts) parts (omega arith)) so_far.each

    -- one more part that was written and put back
    module _ (part : X) (old between new : List T)
        (has : HasItemsOf (given part) (record { items = between; view = view part }) (record { items = new; view = view part }))
        (count : length new ≡ length between) where
      stays_at : (z : ℤ) → (Contains (view_places RowMajor (view part)) z → ⊥) → item_at_place new z ≡ item_at_place between z
      stays_at (pos place) free = has.spare place free
      stays_at (negsuc below) free = refl

      stays : (other : X) → (SharePlace (view part) (view other) → ⊥) → HasItemsGiven between other → HasItemsGiven new other
      stays other apart set index here =
          item_of_index (record { items = new; view = view other }) index here
          ∙ stays_at (place_at (view other) index) (λ found.
          let one = listed RowMajor (view part) (place_at (view other) index) found in
          apart (one.0, one.1, (index, here, one.2)))
          ∙ sym (item_of_index (record { items = between; view = view other }) index here)
          ∙ set index here

      pub one_set : (parts : List X) → All (λ other. SharePlace (view part) (view other) → ⊥) parts → AreSet parts old between
          → AreSet (part ∷ parts) old new
      one_set parts apart so_far = record {
        count = count ∙ so_far.count;
        each = All-cons (HasItemsGiven new) part parts (λ index here. has.items index here)
            (λ k d below. stays (get_or parts k d) (apart k d below) (so_far.each k d below));
        others = λ place free.
            has.spare place (All-head (IsElsewhere place) part parts free)
            ∙ so_far.others place (All-tail (IsElsewhere place) part parts free);
      }

      -- the same where it is the next one of a list
      pub next_set : (parts : List X) (many : ℕ) → AreApart parts → many < length parts → part ≡ get_or parts many part
          → AreSetUpTo many parts old between → AreSetUpTo (many + 1) parts old new
      next_set parts many apart below is so_far = record {
        count = count ∙ so_far.count;
        each = All-more (HasItemsGiven new) parts many part below
            (λ k d early.
            let less : k < many = omega (arith, early, length-take many parts) in
            let at : get_or (take many parts) k d ≡ get_or parts k part =
            get_or-take many parts k d less ∙ other_default parts k d part (omega (arith, less, below)) in
            subst (HasItemsGiven new) (sym at)
            (stays (get_or parts k part)
            (λ shared. apart k many part less below
            (subst (λ other. SharePlace (view (get_or parts k part)) (view other)) is
            (share_place_symmetric (view part) (view (get_or parts k part)) shared)))
            (subst (HasItemsGiven between) at (so_far.each k d early))))
            (subst (HasItemsGiven new) is (λ index here. has.items index here));
        others = λ place free.
            has.spare place (subst (IsElsewhere place) (sym is) (free many part below))
            ∙ so_far.others place free;
      }
