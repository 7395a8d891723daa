-- A search of items that are lent one after another, part by part.
use Rattle.std.proofs.Common.{◌≡◌, ℕ, ◌+◌, ◌≤◌, Bool, true, false, Option, Some, None, List, [], ◌∷◌, ◌++◌, length, take, drop}
use Rattle.std.proofs.Common.{refl, sym, ap, subst, ◌∙◌, Bor}
use Rattle.std.specs.Bool.{MatchBool}
use Rattle.std.specs.Fn.{Called, Mut}
use Rattle.std.specs.Iterator.{CallsWhile, Yields}
use Rattle.std.specs.Prelude.{not}
use Rattle.std.proofs.Math.Bool.{beq}
use Rattle.std.proofs.lemmas.List.{append-nil, append_assoc, drop_more, take-append-drop, take_all}
use Rattle.nd_access.specs.Lending.{lends}
use Rattle.nd_access.specs.Folded.{HasCalled}
use Rattle.nd_loops.specs.Searched.{HasSearched}
use Rattle.nd_access.proofs.Laws.Folding.{IsItemAt, both_called, lent_first, none_called, shown}

-- the function returned something else at each item
abbrev pub HasPassed : {F T : Type 0} → Mut F (Bor T × Unit {0}) Bool → Bool → F → List (Option T) → F → Type 0
HasPassed g wanted f items last = HasCalled (λ p x q. Called g p (x, tt) (not wanted) q) f items last

-- what it returned, by a test whether that is what is looked for
is_wanted : (answer wanted : Bool) → beq answer wanted ≡ true → answer ≡ wanted
is_wanted true true is = refl
is_wanted true false is = absurd (cc)
is_wanted false true is = absurd (cc)
is_wanted false false is = refl

is_not_wanted : (answer wanted : Bool) → beq answer wanted ≡ false → answer ≡ not wanted
is_not_wanted true true is = absurd (cc)
is_not_wanted true false is = refl
is_not_wanted false true is = refl
is_not_wanted false false is = absurd (cc)

module _ {F T : Type 0} {g : Mut F (Bor T × Unit {0}) Bool} {p q : F} {item : Bor T} (answer wanted : Bool) where
  pub found : beq answer wanted ≡ true → Called g p (item, tt) answer q → Called g p (item, tt) wanted q
  found is turn = subst (λ answer. Called g p (item, tt) answer q) (is_wanted answer wanted is) turn

  pub passed : beq answer wanted ≡ false → Called g p (item, tt) answer q → Called g p (item, tt) (not wanted) q
  passed is turn = subst (λ answer. Called g p (item, tt) answer q) (is_not_wanted answer wanted is) turn

module _ {F T : Type 0} {g : Mut F (Bor T × Unit {0}) Bool} {wanted : Bool} where
  -- ---- one item after another
  pub found_here : {f before last : F} {items : List (Option T)} {i : ℕ} (item : Bor T) → IsItemAt items i item.now
      → HasPassed g wanted f (take i items) before → Called g before (item, tt) wanted last → HasSearched g wanted f items true last
  found_here {items = items} {i} item at passed called = record {
    passed = take i items;
    before = _;
    calls = passed;
    ends = (
      item,
      drop (i + 1) items,
      sym (take-append-drop i items)
          ∙ ap (λ left. take i items ++ left) (drop_more items i None at.below ∙ ap (λ y. y ∷ drop (i + 1) items) at.is),
      called,
    );
  }

  pub all_passed : {f last : F} {items : List (Option T)} {i : ℕ} → length items ≤ i → HasPassed g wanted f (take i items) last
      → HasSearched g wanted f items false last
  all_passed {items = items} {i} ended passed =
      record { passed = take i items; before = _; calls = passed; ends = (sym (take_all i items ended), refl) }

  -- ---- one part after another
  pub none_searched : {f : F} → HasSearched g wanted f [] false f
  none_searched = record { passed = []; before = _; calls = none_called; ends = (refl, refl) }

  pub found_first : {f last : F} {items : List (Option T)} (others : List (Option T)) → HasSearched g wanted f items true last
      → HasSearched g wanted f (items ++ others) true last
  found_first others searched = record {
    passed = searched.passed;
    before = searched.before;
    calls = searched.calls;
    ends = (
      searched.ends.0,
      searched.ends.1 ++ others,
      ap (λ items. items ++ others) searched.ends.2 ∙ append_assoc searched.passed (Some searched.ends.0.now ∷ searched.ends.1) others,
      searched.ends.3,
    );
  }

  -- where none was found at first it is as if the search began then
  pub passes : {f last : F} {items : List (Option T)} → HasSearched g wanted f items false last → HasPassed g wanted f items last
  passes {f} searched =
      subst (λ items. HasPassed g wanted f items _) (sym searched.ends.0)
      (subst (HasPassed g wanted f searched.passed) searched.ends.1 searched.calls)

  pub then_searched : {f mid last : F} {items others : List (Option T)} {found : Bool} → HasSearched g wanted f items false mid
      → HasSearched g wanted mid others found last → HasSearched g wanted f (items ++ others) found last
  then_searched {f} {mid} {last} {items} {others} {found} first then = record {
    passed = items ++ then.passed;
    before = then.before;
    calls = both_called (passes first) then.calls;
    ends = by found then.ends;
  }
    where
      by : (found : Bool) → MatchBool found
          ((item : Bor T) × (left : List (Option T)) × (others ≡ then.passed ++ Some item.now ∷ left)
          × Called g then.before (item, tt) wanted last)
          ((others ≡ then.passed) × (then.before ≡ last))
          → MatchBool found ((item : Bor T) × (left : List (Option T)) × (items ++ others ≡ (items ++ then.passed) ++ Some item.now ∷ left)
          × Called g then.before (item, tt) wanted last) ((items ++ others ≡ items ++ then.passed) × (then.before ≡ last))
      by true (item, left, are, called) =
          (item, left, ap (λ others. items ++ others) are ∙ sym (append_assoc items then.passed (Some item.now ∷ left)), called)
      by false (are, same) = (ap (λ others. items ++ others) are, same)

  -- ---- what std says of it, where the result says whether all passed
  pub searched_while : {f last : F} {items : List (Option T)} {found : Bool} (result passed stopped : Bool)
      → (found ≡ false → result ≡ passed)
      → (found ≡ true → result ≡ stopped) → HasSearched g wanted f items found last
      → (left : List (Option T)) × CallsWhile lends g (not wanted) items f left (result ≡ passed)
      (λ xs f' x. (result ≡ stopped) × ((h : F) × Called g f' (x, tt) wanted h))
  searched_while {f} {last} {items} {found} result passed stopped at_end at_stop searched = by found at_end at_stop searched.ends
    where
      lent : List (Bor T)
      lent = searched.calls.lent

      by : (found : Bool) → (found ≡ false → result ≡ passed) → (found ≡ true → result ≡ stopped) → MatchBool found
          ((item : Bor T) × (left : List (Option T)) × (items ≡ searched.passed ++ Some item.now ∷ left)
          × Called g searched.before (item, tt) wanted last)
          ((items ≡ searched.passed) × (searched.before ≡ last))
          → (left : List (Option T)) × CallsWhile lends g (not wanted) items f left (result ≡ passed)
          (λ xs f' x. (result ≡ stopped) × ((h : F) × Called g f' (x, tt) wanted h))
      by true at_end at_stop (item, left, are, called) =
          let all : shown lent ++ Some item.now ∷ left ≡ items =
          ap (λ passed. passed ++ Some item.now ∷ left) searched.calls.are ∙ sym are in (
            left,
            (
              lent,
              Some item,
              searched.before,
              (
                Some item.now ∷ left,
                subst (λ s. Yields lends s lent (Some item.now ∷ left)) all (lent_first lent (Some item.now ∷ left)),
                refl,
              ),
              searched.calls.calls,
              (at_stop refl, (last, called)),
            ),
          )
      by false at_end at_stop (are, same) =
          let all : shown lent ++ [] ≡ items = append-nil (shown lent) ∙ searched.calls.are ∙ sym are in (
            [],
            (
              lent,
              None,
              searched.before,
              ([], subst (λ s. Yields lends s lent []) all (lent_first lent []), (refl, refl)),
              searched.calls.calls,
              at_end refl,
            ),
          )
