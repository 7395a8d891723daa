-- Which of equal items the greatest or the least one is, where one item is compared with the best so far after another.
use Rattle.std.proofs.Common.{◌≡◌, Bool, true, false, cond, Option, Some, None, List, [], ◌∷◌, ◌++◌, IfSome, refl, sym, ap, subst, ◌∙◌, Bor}
use Rattle.std.proofs.Common.{Ordering, Less, Equal, Greater}
use Rattle.std.specs.Cmp.{IsTotalOrder}
use Rattle.std.specs.List.{All}
use Rattle.std.specs.Fn.{Called, Mut, Takes}
use Rattle.std.specs.Iterator.{FoldsItems}
use Rattle.std.specs.Option.{MatchOption, option_map_or}
use Rattle.std.specs.Ordering.{is_eq, is_gt, is_lt, ord_max, ord_min}
use Rattle.std.proofs.lemmas.Cmp.{upto}
use Rattle.std.proofs.lemmas.List.{append-nil, append_assoc}
use Rattle.std.proofs.lemmas.List.Elements.{All-cons, All-nil, All-push, All-weaker}
use Rattle.nd_lent.specs.Extremes.{HasNoEqualAfter, HasNoEqualBefore}
use Rattle.nd_access.specs.Lending.{lends}
use Rattle.nd_lent.specs.private.Picked.{better_of}
use Rattle.nd_lent.proofs.Extremes.{less_is_greater, picks_less}
use Rattle.nd_lent.proofs.Laws.Folds.{IsKept, after_fold}

-- ---- one that is less or greater is not equal
less_not_equal : (o : Ordering) → is_lt o ≡ true → is_eq o ≡ false
less_not_equal Less is = refl
less_not_equal Equal is = let wrong : false ≡ true = is in absurd (cc)
less_not_equal Greater is = refl

greater_not_less : (o : Ordering) → is_gt o ≡ true → (is_eq o ≡ false) × (is_lt o ≡ false)
greater_not_less Less is = let wrong : false ≡ true = is in absurd (cc)
greater_not_less Equal is = let wrong : false ≡ true = is in absurd (cc)
greater_not_less Greater is = (refl, refl)

module _ {T : Type 0} (R : T → T → Ordering) where
  abbrev NotEqual : T → Option T → Type 0
  NotEqual item other = option_map_or (λ other. is_eq (R other item)) other false ≡ false

  abbrev NotLess : T → Option T → Type 0
  NotLess item other = option_map_or (λ other. is_lt (R other item)) other false ≡ false

-- what isn't less than an item is greater than one that is less than it
module _ {T : Type 0} {R : T → T → Ordering} (total : IsTotalOrder R) (best x : T) (less : is_lt (R x best) ≡ true) where
  greater : (other : T) → is_lt (R other best) ≡ false → is_gt (R other x) ≡ true
  greater other not_less = by (is_gt (R other x)) refl
    where
      by : (more : Bool) → is_gt (R other x) ≡ more → more ≡ true
      by true is = refl
      by false is =
          let between : is_gt (R best x) ≡ false = upto total best other x (sym (less_is_greater total other best) ∙ not_less) is in
          let above : is_gt (R best x) ≡ true = sym (less_is_greater total x best) ∙ less in
          absurd (cc)

  greater_than_both : (other : Option T) → NotLess R best other → NotEqual R x other × NotLess R x other
  greater_than_both None not_less = (refl, refl)
  greater_than_both (Some other) not_less = greater_not_less (R other x) (greater other not_less)

module _ {F T : Type 0} (g : Mut F (Option T × (Bor T × Unit {0})) (Option T)) {R : T → T → Ordering} (total : IsTotalOrder R)
    (items : List (Option T)) where
  -- ---- the greatest: the last so far
  record IsLastSoFar (left : List (Option T)) (best : T) : Type 0 where
    before : List (Option T)
    after : List (Option T)
    are : items ≡ before ++ Some best ∷ (after ++ left)
    none_equal : All (NotEqual R best) after

  abbrev IsGreatestSoFar : List (Option T) → Option T → Type 0
  IsGreatestSoFar left best = MatchOption best (left ≡ items) (IsLastSoFar left)

  one_greater : (x : T) (left : List (Option T)) (best : Option T) → IsGreatestSoFar (Some x ∷ left) best
      → IsGreatestSoFar left (better_of (ord_max R) best x)
  one_greater x left None so_far =
      record { before = []; after = []; are = sym so_far; none_equal = All-nil (NotEqual R x) }
  one_greater x left (Some best) so_far = by (is_lt (R x best)) refl
    where
      by : (less : Bool) → is_lt (R x best) ≡ less → IsLastSoFar left (cond less best x)
      by true less = record {
        before = so_far.before;
        after = so_far.after ++ Some x ∷ [];
        are = so_far.are ∙ ap (λ later. so_far.before ++ Some best ∷ later) (sym (append_assoc so_far.after (Some x ∷ []) left));
        none_equal = All-push (NotEqual R best) so_far.after (Some x) so_far.none_equal (less_not_equal (R x best) less);
      }
      by false more = record {
        before = so_far.before ++ Some best ∷ so_far.after;
        after = [];
        are = so_far.are ∙ sym (append_assoc so_far.before (Some best ∷ so_far.after) (Some x ∷ left));
        none_equal = All-nil (NotEqual R x);
      }

  last : (best : Option T) → IsGreatestSoFar [] best → IfSome best (HasNoEqualAfter R items)
  last None so_far = tt
  last (Some best) so_far = record {
    before = so_far.before;
    after = so_far.after;
    are = so_far.are ∙ ap (λ later. so_far.before ++ Some best ∷ later) (append-nil so_far.after);
    none_equal = so_far.none_equal;
  }

  -- ---- the least: the first so far
  record IsFirstSoFar (left : List (Option T)) (best : T) : Type 0 where
    before : List (Option T)
    after : List (Option T)
    are : items ≡ before ++ Some best ∷ (after ++ left)
    none_equal : All (NotEqual R best) before
    none_less : All (NotLess R best) (before ++ Some best ∷ after)

  abbrev IsLeastSoFar : List (Option T) → Option T → Type 0
  IsLeastSoFar left best = MatchOption best (left ≡ items) (IsFirstSoFar left)

  not_less_than_itself : (x : T) → is_lt (R x x) ≡ false
  not_less_than_itself x = (picks_less total).not_itself x

  one_less : (x : T) (left : List (Option T)) (best : Option T) → IsLeastSoFar (Some x ∷ left) best
      → IsLeastSoFar left (better_of (ord_min R) best x)
  one_less x left None so_far = record {
    before = [];
    after = [];
    are = sym so_far;
    none_equal = All-nil (NotEqual R x);
    none_less = All-cons (NotLess R x) (Some x) [] (not_less_than_itself x) (All-nil (NotLess R x));
  }
  one_less x left (Some best) so_far = by (is_lt (R x best)) refl
    where
      by : (less : Bool) → is_lt (R x best) ≡ less → IsFirstSoFar left (cond less x best)
      by true less =
          let earlier = so_far.before ++ Some best ∷ so_far.after in
          let both = greater_than_both total best x less in
          record {
            before = earlier;
            after = [];
            are = so_far.are ∙ sym (append_assoc so_far.before (Some best ∷ so_far.after) (Some x ∷ left));
            none_equal = All-weaker (NotLess R best) (NotEqual R x) (λ other h. (both other h).0) earlier so_far.none_less;
            none_less = All-push (NotLess R x) earlier (Some x)
                (All-weaker (NotLess R best) (NotLess R x) (λ other h. (both other h).1) earlier so_far.none_less)
                (not_less_than_itself x);
          }
      by false more = record {
        before = so_far.before;
        after = so_far.after ++ Some x ∷ [];
        are = so_far.are ∙ ap (λ later. so_far.before ++ Some best ∷ later) (sym (append_assoc so_far.after (Some x ∷ []) left));
        none_equal = so_far.none_equal;
        none_less = subst (All (NotLess R best)) (append_assoc so_far.before (Some best ∷ so_far.after) (Some x ∷ []))
            (All-push (NotLess R best) (so_far.before ++ Some best ∷ so_far.after) (Some x) so_far.none_less more);
      }

  first : (best : Option T) → IsLeastSoFar [] best → IfSome best (HasNoEqualBefore R items)
  first None so_far = tt
  first (Some best) so_far = record {
    before = so_far.before;
    after = so_far.after;
    are = so_far.are ∙ ap (λ later. so_far.before ++ Some best ∷ later) (append-nil so_far.after);
    none_equal = so_far.none_equal;
  }

  -- ---- all items
  module _ {f : F} {result : Option T} (takes : (item : Bor T) (f : F) (best : Option T) → Takes g f (best, (item, tt)))
      (ran : FoldsItems lends g items f None result) where
    module _ {pick : T → T → T} (IsSoFar : List (Option T) → Option T → Type 0)
        (says : (item : Bor T) (f h : F) (best next : Option T) → Called g f (best, (item, tt)) next h
        → next ≡ better_of pick best item.now)
        (one_more : (x : T) (left : List (Option T)) (best : Option T) → IsSoFar (Some x ∷ left) best
        → IsSoFar left (better_of pick best x)) where
      at_end : IsSoFar items None → IsSoFar [] result
      at_end none =
          let Holds : List (Option T) → F → Option T → Type 0 = λ left f best. IsSoFar left best in
          let kept : IsKept g Holds = record {
            takes = λ item left f best holds. takes item f best;
            keeps = λ item left f h best next holds called.
                subst (IsSoFar left) (sym (says item f h best next called)) (one_more item.now left best holds);
          } in
          (after_fold g Holds kept none ran).1

    pub picked_last : ((item : Bor T) (f h : F) (best next : Option T) → Called g f (best, (item, tt)) next h
        → next ≡ better_of (ord_max R) best item.now) → IfSome result (HasNoEqualAfter R items)
    picked_last says = last result (at_end IsGreatestSoFar says one_greater refl)

    pub picked_first : ((item : Bor T) (f h : F) (best next : Option T) → Called g f (best, (item, tt)) next h
        → next ≡ better_of (ord_min R) best item.now) → IfSome result (HasNoEqualBefore R items)
    picked_first says = first result (at_end IsLeastSoFar says one_less refl)
