-- The best of items by an order, one item after another: it is one of them, and whatever comes first of it and of those that are left
-- comes first of all.
use Rattle.std.proofs.Common.{◌≡◌, suc, ◌<◌, ◌↔◌, ◌⊎◌, inl, inr, Bool, true, false, cond, Option, Some, None, List, [], ◌∷◌, length, IfSome}
use Rattle.std.proofs.Common.{IsSome, refl, sym, ap}
use Rattle.std.proofs.Common.{subst, ◌∙◌, Bor, arith}
use Rattle.std.specs.Cmp.{IsTotalOrder}
use Rattle.std.specs.List.{All, Contains}
use Rattle.std.specs.Fn.{Called, Mut, Takes}
use Rattle.std.specs.Iterator.{FoldsItems}
use Rattle.std.specs.Option.{MatchOption, option_map_or}
use Rattle.std.proofs.Common.{Ordering, Less, Equal, Greater}
use Rattle.std.specs.Ordering.{is_gt, is_lt, ord_max, ord_min, ordering_reverse}
use Rattle.std.proofs.lemmas.Cmp.{upto}
use Rattle.std.proofs.lemmas.List.Elements.{All-cons, All-nil}
use Rattle.nd_lent.specs.Extremes.{IsFirstOf}
use Rattle.nd_access.specs.Lending.{lends}
use Rattle.nd_lent.specs.private.Picked.{better_of}
use Rattle.nd_lent.proofs.Laws.Folds.{IsKept, after_fold}

-- a choice of two: what it doesn't come before, neither of them does
pub record Picks {T : Type 0} (comes_before : T → T → Bool) (pick : T → T → T) : Type 0 where
  pub one_of_two : (best item : T) → (pick best item ≡ best) ⊎ (pick best item ≡ item)
  pub for_both : (best item other : T) → comes_before (pick best item) other ≡ false
      → (comes_before best other ≡ false) × (comes_before item other ≡ false)
  pub not_itself : (item : T) → comes_before item item ≡ false

module _ {K : Type 0} {R : K → K → Ordering} (total : IsTotalOrder R) where
  reversed : (x y : K) (o : Ordering) → R x y ≡ o → R y x ≡ ordering_reverse o
  reversed x y o is = total.antisymm y x ∙ ap ordering_reverse is

  -- of an order and the same one read from the other side, one is less where the other is greater
  pub less_is_greater : (x y : K) → is_lt (R x y) ≡ is_gt (R y x)
  less_is_greater x y = by (R x y) refl
    where
      by : (o : Ordering) → R x y ≡ o → is_lt (R x y) ≡ is_gt (R y x)
      by Less is = ap is_lt is ∙ sym (ap is_gt (reversed x y Less is))
      by Equal is = ap is_lt is ∙ sym (ap is_gt (reversed x y Equal is))
      by Greater is = ap is_lt is ∙ sym (ap is_gt (reversed x y Greater is))

  not_greater_than_itself : (x : K) → is_gt (R x x) ≡ false
  not_greater_than_itself x = by (R x x) refl
    where
      by : (o : Ordering) → R x x ≡ o → is_gt (R x x) ≡ false
      by Less is = ap is_gt is
      by Equal is = ap is_gt is
      by Greater is = let wrong : Greater ≡ Less = sym is ∙ reversed x x Greater is in absurd (cc)

  -- one that is less is not greater
  less_not_greater : (x y : K) → is_lt (R x y) ≡ true → is_gt (R x y) ≡ false
  less_not_greater x y = by (R x y)
    where
      by : (o : Ordering) → is_lt o ≡ true → is_gt o ≡ false
      by Less less = refl
      by Equal less = refl
      by Greater less = let wrong : false ≡ true = less in absurd (cc)

  pub picks_greater : Picks (λ one other. is_gt (R one other)) (ord_max R)
  picks_greater = record {
    one_of_two = λ best item. which best item (is_lt (R item best));
    for_both = λ best item other none. both best item other (is_lt (R item best)) refl none;
    not_itself = not_greater_than_itself;
  }
    where
      which : (best item : K) (less : Bool) → (cond less best item ≡ best) ⊎ (cond less best item ≡ item)
      which best item true = inl refl
      which best item false = inr refl

      both : (best item other : K) (less : Bool) → is_lt (R item best) ≡ less → is_gt (R (cond less best item) other) ≡ false
          → (is_gt (R best other) ≡ false) × (is_gt (R item other) ≡ false)
      both best item other true less none = (none, upto total item best other (less_not_greater item best less) none)
      both best item other false more none = (upto total best item other (sym (less_is_greater item best) ∙ more) none, none)

  pub picks_less : Picks (λ one other. is_lt (R one other)) (ord_min R)
  picks_less = record {
    one_of_two = λ best item. which best item (is_lt (R item best));
    for_both = λ best item other none. both best item other (is_lt (R item best)) refl none;
    not_itself = λ item. less_is_greater item item ∙ not_greater_than_itself item;
  }
    where
      which : (best item : K) (less : Bool) → (cond less item best ≡ best) ⊎ (cond less item best ≡ item)
      which best item true = inr refl
      which best item false = inl refl

      both : (best item other : K) (less : Bool) → is_lt (R item best) ≡ less → is_lt (R (cond less item best) other) ≡ false
          → (is_lt (R best other) ≡ false) × (is_lt (R item other) ≡ false)
      both best item other true less none =
          let first : is_gt (R other item) ≡ false = sym (less_is_greater item other) ∙ none in
          (less_is_greater best other ∙ upto total other item best first (less_not_greater item best less), none)
      both best item other false more none =
          let first : is_gt (R other best) ≡ false = sym (less_is_greater best other) ∙ none in
          (none, less_is_greater item other ∙ upto total other best item first (sym (less_is_greater item best) ∙ more))

module _ {F T : Type 0} (g : Mut F (Option T × (Bor T × Unit {0})) (Option T)) {comes_before : T → T → Bool} {pick : T → T → T}
    (picks : Picks comes_before pick)
    (items : List (Option T)) where
  abbrev NotBefore : T → Option T → Type 0
  NotBefore first item = option_map_or (λ other. comes_before other first) item false ≡ false

  -- it is one of the items, and what neither it nor those that are left come before, none comes before
  record IsBestSoFar (left : List (Option T)) (best : T) : Type 0 where
    item : Contains items (Some best)
    for_all : (first : T) → comes_before best first ≡ false → All (NotBefore first) left → All (NotBefore first) items

  record IsSoFar (left : List (Option T)) (seen : Option T) : Type 0 where
    others : (item : Option T) → Contains left item → Contains items item
    best : MatchOption seen (left ≡ items) (IsBestSoFar left)

  first_of : (item : Option T) (left : List (Option T)) → Contains (item ∷ left) item
  first_of item left = (0, omega arith, refl)

  then_of : (item one : Option T) (left : List (Option T)) → Contains left one → Contains (item ∷ left) one
  then_of item one left here = (suc here.0, omega (arith, here.1), here.2)

  one_more : (x : T) (left : List (Option T)) (best : Option T) → IsSoFar (Some x ∷ left) best → IsSoFar left (better_of pick best x)
  one_more x left None so_far = record {
    others = λ item here. so_far.others item (then_of (Some x) item left here);
    best = record {
      item = so_far.others (Some x) (first_of (Some x) left);
      for_all = λ first none all. subst (All (NotBefore first)) so_far.best (All-cons (NotBefore first) (Some x) left none all);
    };
  }
  one_more x left (Some best) so_far = record {
    others = λ item here. so_far.others item (then_of (Some x) item left here);
    best = record {
      item = elim (picks.one_of_two best x) [
        | inl is ↦ subst (λ y. Contains items (Some y)) (sym is) so_far.best.item
        | inr is ↦ subst (λ y. Contains items (Some y)) (sym is) (so_far.others (Some x) (first_of (Some x) left))
      ];
      for_all = λ first none all.
          let both = picks.for_both best x first none in
          so_far.best.for_all first both.0 (All-cons (NotBefore first) (Some x) left both.1 all);
    };
  }

  -- in the end it is the first of all, if there is any
  pub record IsBest (best : Option T) : Type 0 where
    pub found : IsSome best ↔ (0 < length items)
    pub first : IfSome best (IsFirstOf comes_before items)

  at_end : (best : Option T) → IsSoFar [] best → IsBest best
  at_end None so_far = record {
    found = (λ some. let wrong : false ≡ true = some in absurd (cc), λ some. absurd (omega (arith, some, ap length so_far.best)));
    first = tt;
  }
  at_end (Some best) so_far = record {
    found = (λ some. omega (arith, so_far.best.item.1), λ some. refl);
    first = record {
      item = so_far.best.item;
      none_before = so_far.best.for_all best (picks.not_itself best) (All-nil (NotBefore best));
    };
  }

  pub picked : {f : F} {result : Option T} → ((item : Bor T) (f : F) (best : Option T) → Takes g f (best, (item, tt)))
      → ((item : Bor T) (f h : F) (best next : Option T) → Called g f (best, (item, tt)) next h → next ≡ better_of pick best item.now)
      → FoldsItems lends g items f None result → IsBest result
  picked {f} {result} takes says ran =
      let Holds : List (Option T) → F → Option T → Type 0 = λ left f best. IsSoFar left best in
      let kept : IsKept g Holds = record {
        takes = λ item left f best holds. takes item f best;
        keeps = λ item left f h best next holds called.
            subst (IsSoFar left) (sym (says item f h best next called)) (one_more item.now left best holds);
      } in
      at_end result (after_fold g Holds kept (record { others = λ item here. here; best = refl }) ran).1
