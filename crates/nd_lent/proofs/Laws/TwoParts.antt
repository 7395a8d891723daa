-- Laws of two parts that share no place, by the clauses of the calls: each is taken of all items, written, and put back, last one first.
use Rattle.std.proofs.Common.{◌≡◌, ℕ, true, Bool, Option, List, length, replicate, sym, ap, subst, ◌∙◌}
use Rattle.ndarray_layout.specs.SharePlace.{SharePlace}
use Rattle.ndarray_layout.specs.View.{View}
use Rattle.nd_access.proofs.Laws.Marks.{owned_beside}
use Rattle.nd_lent.proofs.Laws.PutBack.{two_put_back}
use Rattle.nd_lent.proofs.Laws.PutBackItems.{part_put_back}
use Rattle.nd_access.specs.Cells.{chosen_of, without}
use Rattle.nd_access.specs.HasItems.{HasItemsOf}
use Rattle.nd_access.specs.Items.{ArrayValue, IsOwned, with_item}
use Rattle.nd_access.specs.Part.{IsPart, marks_of}

module _ {count : ℕ} {first second : View} (one : IsOwned count first) (other : IsOwned count second) where
  -- the second is a part of what the first leaves
  pub second_is_part : (SharePlace first second → ⊥) → {left : List Bool} → left ≡ without (marks_of count first) (replicate count true)
      → IsPart left second
  second_is_part apart is = subst (λ marks. IsPart marks second) (sym is) (owned_beside count first second one other apart)

  -- each was written by what is given for its indices: first the second part, then the first one
  pub two_written : {T : Type 0} {given also : List ℕ → Option T} {before after old new : ArrayValue T} {items between last end : List T}
      (marks its : List Bool) (rest : List T) → HasItemsOf given before after → HasItemsOf also old new
      → between ≡ chosen_of its new.items rest → last ≡ chosen_of marks after.items between → end ≡ last
      → rest ≡ items → length items ≡ count
      → (before.view ≡ first) × (length after.items ≡ count) × (marks ≡ marks_of count first)
      → (old.view ≡ second) × (length new.items ≡ count) × (its ≡ marks_of count second)
      → (middle : List T)
      × HasItemsOf also (record { items = items; view = second }) (record { items = middle; view = second })
      × HasItemsOf given (record { items = middle; view = first }) (record { items = end; view = first })
  two_written {T} {given} {also} {between = between} {last = last} marks its rest mine hers inner outer same kept many of_first of_second =
      let right = part_put_back count second its rest between hers other.within of_second.0 of_second.1 (ap length kept ∙ many) of_second.2
      inner in
      let left = part_put_back count first marks between last mine one.within of_first.0 of_first.1 right.0 of_first.2 outer in (
        between,
        subst (λ (xs : List T). HasItemsOf also (record { items = xs; view = second }) (record { items = between; view = second })) kept
            right.1,
        subst (λ (x : List T). HasItemsOf given (record { items = between; view = first }) (record { items = x; view = first })) (sym same)
            left.1,
      )

-- each was written at an index: one write after the other
pub two_set : {T : Type 0} {first second : View} (items : List T) → IsOwned (length items) first → IsOwned (length items) second
    → (SharePlace first second → ⊥) → (at_first at_second : List ℕ) (x y : T) (marks its : List Bool) (ours theirs rest : List T)
    {between last : List T} → between ≡ chosen_of its theirs rest → last ≡ chosen_of marks ours between
    → (ours ≡ (with_item (record { items = items; view = first }) at_first x).items) × (marks ≡ marks_of (length items) first)
    → (theirs ≡ (with_item (record { items = items; view = second }) at_second y).items) × (its ≡ marks_of (length items) second)
    → rest ≡ items
    → last ≡ (let written = with_item (record { items = items; view = second }) at_second y in
    (with_item (record { items = written.items; view = first }) at_first x).items)
two_set items one other apart at_first at_second x y marks its ours theirs rest inner outer of_first of_second kept =
    let second = inner ∙ (λ i. chosen_of (of_second.1 i) (of_second.0 i) (kept i)) in
    outer ∙ (λ i. chosen_of (of_first.1 i) (of_first.0 i) (second i)) ∙ two_put_back _ _ items one other apart at_first at_second x y
