-- Laws of calls of a closure at one place after another: at one more, at some and then at others.
use Rattle.std.proofs.Common.{◌≡◌, ◌≢◌, ℕ, ◌+◌, ◌<◌, ◌≤◌, ℤ, pos, negsuc, Option, Some, None}
use Rattle.std.proofs.Common.{List, [], ◌∷◌, ◌++◌, length, get_or, set}
use Rattle.std.proofs.Common.{map, take, drop, refl, sym, ap, subst, ◌∙◌, arith}
use Rattle.std.specs.List.{AllPairs, Contains, FoldsTo}
use Rattle.std.specs.Option.{option_map}
use Rattle.std.specs.Prelude.{zip}
use Rattle.std.proofs.lemmas.List.{drop_more, length-map, length-take, map-append}
use Rattle.std.proofs.lemmas.List.{take-append-drop, take_all, take_more}
use Rattle.std.proofs.lemmas.List.Elements.{Contains-append_left, Contains-append_right}
use Rattle.ndarray_layout.proofs.Laws.Lists.{map_same}
use Rattle.std.specs.Iterator.{CallableAtEachTurn, Yields}
use Rattle.nd_access.specs.Mapped.{Makes, gives}
use Rattle.nd_access.specs.Items.{item_at_place}
use Rattle.nd_access.specs.Written.{KeepsAllBut}
use Rattle.nd_access.specs.MapsTo.{MapsTo}
use Rattle.nd_access.proofs.Laws.Lists.{other_default, pairs_first, parts_apart, set_other, set_same}

-- no place is listed twice
abbrev pub Distinct : List ℤ → Type 0
Distinct places = AllPairs (λ one other. one ≢ other) places

-- ---- what calls make that act as a function does
pub acted : {F X Y : Type 0} (call : F → X → Y → F → Type 0) {f : F} (h : X → Y)
    → ((x : X) (y : Y) (f' : F) → call f x y f' → (f' ≡ f) × (y ≡ h x))
    → (given : List (Option X)) (made : List (Option Y)) (p last : F) → p ≡ f → length given ≡ length made
    → FoldsTo (Makes call) p (zip given made) last → made ≡ map (option_map h) given
acted call h acts [] [] p last same count calls = refl
acted call h acts [] (y ∷ made) p last same count calls = absurd (omega arith)
acted call h acts (x ∷ given) [] p last same count calls = absurd (omega arith)
acted call h acts (None ∷ given) (y ∷ made) p last same count calls = absurd calls.1
acted call h acts (Some x ∷ given) (None ∷ made) p last same count calls = absurd calls.1
acted call h acts (Some x ∷ given) (Some y ∷ made) p last same count (next, called, more) =
    let this = acts x y next (subst (λ q. call q x y next) same called) in
    let rest = acted call h acts given made next last this.0 (omega arith) more in
    ap (λ item. item ∷ made) (ap Some this.1) ∙ ap (λ items. Some (h x) ∷ items) rest

-- ---- a closure that may be called at each item in turn
module _ {F T : Type 0} {R : F → T → F → Type 0} {Q : F → T → Type 0} {items others : List (Option T)} {f : F} {x : T}
    (first : items ≡ Some x ∷ others)
    (callable : CallableAtEachTurn gives R Q items f) where
  -- may be at the first
  pub callable_at_first : Q f x
  callable_at_first = callable.at [] items f x others refl refl first

  -- and after the call at it at each of the others
  pub callable_at_others : (q : F) → R f x q → CallableAtEachTurn gives R Q others q
  callable_at_others q called = record {
    at = λ xs t r y u yields calls step. callable.at (x ∷ xs) t r y u (others, first, yields) (q, called, calls) step;
  }

-- ---- a list folded in two parts
pub then_folded : {P A : Type 0} (R : P → A → P → Type 0) (p q r : P) (xs ys : List A) → FoldsTo R p xs q → FoldsTo R q ys r
    → FoldsTo R p (xs ++ ys) r
then_folded R p q r [] ys first then = subst (λ p. FoldsTo R p ys r) (sym first) then
then_folded R p q r (x ∷ xs) ys first then = (first.0, first.1, then_folded R first.0 q r xs ys first.2 then)

-- ---- two lists of pairs
pub zip_both : {A B : Type 0} (xs more : List A) (ys others : List B) → length xs ≡ length ys
    → zip (xs ++ more) (ys ++ others) ≡ zip xs ys ++ zip more others
zip_both [] more [] others count = refl
zip_both [] more (y ∷ ys) others count = absurd (omega arith)
zip_both (x ∷ xs) more [] others count = absurd (omega arith)
zip_both (x ∷ xs) more (y ∷ ys) others count = ap (λ pairs. (x, y) ∷ pairs) (zip_both xs more ys others (omega arith))

-- items at places that are none of those that are written stay
kept : {Y : Type 0} (others : List ℤ) (mid new : List Y) → KeepsAllBut others mid new → (z : ℤ) → (Contains others z → ⊥)
    → item_at_place new z ≡ item_at_place mid z
kept others mid new keeps (pos place) none = keeps place none
kept others mid new keeps (negsuc below) none = refl

-- ---- a place of a list, after those before it
module _ (places : List ℤ) (count place : ℕ) where
  pub places_more : count < length places → get_or places count (pos place) ≡ pos place
      → take (count + 1) places ≡ take count places ++ pos place ∷ []
  places_more below there = take_more places count (pos place) below ∙ ap (λ z. take count places ++ z ∷ []) there

  pub distinct_so_far : Distinct places → count < length places → get_or places count (pos place) ≡ pos place
      → Distinct (take count places ++ pos place ∷ [])
  distinct_so_far distinct below there =
      subst Distinct (places_more below there)
      (pairs_first (λ one other. one ≢ other) (take (count + 1) places) (drop (count + 1) places)
      (subst Distinct (sym (take-append-drop (count + 1) places)) distinct))

  pub place_apart : Distinct places → count < length places → get_or places count (pos place) ≡ pos place
      → Contains (take count places) (pos place) → ⊥
  place_apart distinct below there (k, under, is) =
      parts_apart (take count places) (pos place ∷ []) (distinct_so_far distinct below there) k (pos place) under (0, omega arith, sym is)

-- ---- calls at some places, and then at others
module _ {F X Y : Type 0} {call : F → X → Y → F → Type 0} where
  pub no_run : {f : F} {stored : List Y} → MapsTo call f [] [] stored stored f
  no_run = record { calls = refl; others = λ place spared. refl }

  one_run : {f next : F} {place : ℕ} {x : X} {old : List Y} (y : Y) → call f x y next → place < length old
      → MapsTo call f (pos place ∷ []) (Some x ∷ []) old (set old place y) next
  one_run {f} {next} {place} {x} {old} y called below = record {
    calls = (next, subst (λ item. Makes call f (Some x, item) next) (sym (set_same old place below)) called, refl);
    others = λ other spared. set_other old place y other (λ same. spared (0, omega arith, ap pos (sym same)));
  }

  pub both_run : {f next last : F} {places others : List ℤ} {given more : List (Option X)} {old mid new : List Y}
      → length given ≡ length places → Distinct (places ++ others)
      → MapsTo call f places given old mid next → MapsTo call next others more mid new last
      → MapsTo call f (places ++ others) (given ++ more) old new last
  both_run {f} {next} {last} {places} {others} {given} {more} {old} {mid} {new} count distinct first then =
      let made = map (item_at_place mid) places in
      let same : map (item_at_place new) places ≡ made = map_same (item_at_place new) (item_at_place mid) places (λ k d below.
      kept others mid new then.others (get_or places k d) (parts_apart places others distinct k d below)) in
      let pairs : zip (given ++ more) (map (item_at_place new) (places ++ others))
      ≡ zip given made ++ zip more (map (item_at_place new) others) =
      ap (zip (given ++ more)) (map-append (item_at_place new) places others
      ∙ ap (λ items. items ++ map (item_at_place new) others) same)
      ∙ zip_both given more made (map (item_at_place new) others) (omega (arith, count, length-map places (item_at_place mid))) in
      record {
        calls = subst (λ pairs. FoldsTo (Makes call) f pairs last) (sym pairs) (then_folded (Makes call) f next last (zip given made)
            (zip more (map (item_at_place new) others)) first.calls then.calls);
        others = λ place spared. then.others place (λ here. spared (Contains-append_right places others (pos place) here))
            ∙ first.others place (λ here. spared (Contains-append_left places others (pos place) here));
      }

-- ---- one place of a list after another
module _ {F X Y : Type 0} (call : F → X → Y → F → Type 0) (Q : F → X → Type 0) (f : F) (places : List ℤ) (items : List (Option X))
    (old : List Y) where
  -- the calls at the first of them are made, and the closure may be called at each of the other items
  pub record HasMadeSoFar (count : ℕ) (now : List Y) (here : F) : Type 0 where
    pub run : MapsTo call f (take count places) (take count items) old now here
    pub callable : CallableAtEachTurn gives (λ p x q. (y : Y) × call p x y q) Q (drop count items) here

  pub begins : CallableAtEachTurn gives (λ p x q. (y : Y) × call p x y q) Q items f → HasMadeSoFar 0 old f
  begins callable = record { run = no_run; callable = callable }

  -- the place that comes next, and the item that is given with it
  pub record IsNext (count place : ℕ) (x : X) : Type 0 where
    pub below : count < length places
    pub there : get_or places count (pos place) ≡ pos place
    pub within : place < length old
    pub given : get_or items count None ≡ Some x

  module _ (long : length items ≡ length places) (distinct : Distinct places) {count : ℕ} {now : List Y} {here : F} {place : ℕ} {x : X}
      (next : IsNext count place x) (so_far : HasMadeSoFar count now here) where
    items_left : drop count items ≡ Some x ∷ drop (count + 1) items
    items_left = drop_more items count None (omega (arith, next.below, long)) ∙ ap (λ item. item ∷ drop (count + 1) items) next.given

    pub takes_next : Q here x
    takes_next = callable_at_first items_left so_far.callable

    pub one_more : {q : F} (y : Y) → length now ≡ length old → call here x y q → HasMadeSoFar (count + 1) (set now place y) q
    one_more {q} y same called =
        let run = both_run (omega (arith, length-take count items, length-take count places, long))
        (distinct_so_far places count place distinct next.below next.there) so_far.run
        (one_run y called (omega (arith, next.within, same))) in
        let items_more : take count items ++ Some x ∷ [] ≡ take (count + 1) items =
        sym (take_more items count None (omega (arith, next.below, long)) ∙ ap (λ item. take count items ++ item ∷ []) next.given) in
        record {
          run = subst (λ zs. MapsTo call f zs (take (count + 1) items) old (set now place y) q)
              (sym (places_more places count place next.below next.there))
              (subst (λ xs. MapsTo call f (take count places ++ pos place ∷ []) xs old (set now place y) q) items_more run);
          callable = callable_at_others items_left so_far.callable q (y, called);
        }

  -- where all are done
  pub all_run : {count : ℕ} {now : List Y} {here : F} → length items ≡ length places → length places ≤ count → HasMadeSoFar count now here
      → MapsTo call f places items old now here
  all_run {count} {now} {here} long ended so_far =
      subst (λ zs. MapsTo call f zs items old now here) (take_all count places ended)
      (subst (λ xs. MapsTo call f (take count places) xs old now here) (take_all count items (omega (arith, ended, long))) so_far.run)

-- places that come later are none of those before
later_apart : (xs ys : List ℤ) → Distinct (xs ++ ys) → (z : ℤ) → Contains ys z → Contains xs z → ⊥
later_apart xs ys distinct z there (k, below, is) =
    parts_apart xs ys distinct k z below (subst (Contains ys) (sym is) there)

-- so their items are as before
pub others_stay : {X : Type 0} (xs ys : List ℤ) (old new : List X) → Distinct (xs ++ ys) → KeepsAllBut xs old new
    → map (item_at_place new) ys ≡ map (item_at_place old) ys
others_stay xs ys old new distinct keeps = map_same (item_at_place new) (item_at_place old) ys (λ k d below.
    kept xs old new keeps (get_or ys k d)
    (later_apart xs ys distinct (get_or ys k d) (k, below, other_default ys k (get_or ys k d) d below)))

-- a closure that may be called at items and others may be at the items alone
yields_before : {T : Type 0} (s t left : List (Option T)) (xs : List T) → Yields gives s xs t → Yields gives (s ++ left) xs (t ++ left)
yields_before s t left [] yields = ap (λ s. s ++ left) yields
yields_before s t left (x ∷ xs) yields =
    (yields.0 ++ left, ap (λ s. s ++ left) yields.1, yields_before yields.0 t left xs yields.2)

module _ {F T : Type 0} {R : F → T → F → Type 0} {Q : F → T → Type 0} where
  pub callable_in_part : {f : F} (items left : List (Option T)) → CallableAtEachTurn gives R Q (items ++ left) f
      → CallableAtEachTurn gives R Q items f
  callable_in_part items left callable = record {
    at = λ xs t q x u yields calls step.
        callable.at xs (t ++ left) q x (u ++ left) (yields_before items t left xs yields) calls (ap (λ s. s ++ left) step);
  }

  -- and after the calls at the items at the others
  pub callable_after : {X : Type 0} {call : F → T → X → F → Type 0} → ((p q : F) (x : T) (y : X) → call p x y q → R p x q)
      → (f last : F) (items : List (Option T)) (made : List (Option X)) (others : List (Option T)) → length items ≡ length made
      → FoldsTo (Makes call) f (zip items made) last → CallableAtEachTurn gives R Q (items ++ others) f
      → CallableAtEachTurn gives R Q others last
  callable_after says f last [] [] others count calls callable = subst (CallableAtEachTurn gives R Q others) calls callable
  callable_after says f last [] (y ∷ made) others count calls callable = absurd (omega arith)
  callable_after says f last (x ∷ items) [] others count calls callable = absurd (omega arith)
  callable_after says f last (None ∷ items) (y ∷ made) others count calls callable = absurd calls.1
  callable_after says f last (Some x ∷ items) (None ∷ made) others count calls callable = absurd calls.1
  callable_after says f last (Some x ∷ items) (Some y ∷ made) others count (next, called, more) callable =
      callable_after says next last items made others (omega arith) more (callable_at_others refl callable next (says f next x y called))
