-- A function that is called at items that are lent, one after another.
use Rattle.std.proofs.Common.{◌≡◌, ℕ, ◌+◌, ◌<◌, Option, Some, None, List, [], ◌∷◌, ◌++◌, length, get_or, map, take, drop, refl, sym, ap}
use Rattle.std.proofs.Common.{subst, ◌∙◌, Bor, arith}
use Rattle.std.specs.Fn.{Called, Mut, Takes}
use Rattle.std.specs.Iterator.{CallableAtEachTurn, CallableInFold, CallableInForEach, CallsOnEach, FoldTurn, FoldsItems, Yields}
use Rattle.std.specs.List.{FoldsTo}
use Rattle.std.proofs.lemmas.List.{append-nil, drop_more, get_or-map, length-map, map-append, take_more}
use Rattle.nd_access.specs.Lending.{lends}
use Rattle.nd_access.specs.Folded.{HasCalled, HasFolded}
pub use Rattle.nd_access.proofs.Laws.MapsTo.{then_folded}

abbrev pub shown : {T : Type 0} → List (Bor T) → List (Option T)
shown lent = map (λ item. Some item.now) lent

-- items that are lent one after another leave the others
pub lent_first : {T : Type 0} (lent : List (Bor T)) (left : List (Option T)) → Yields lends (shown lent ++ left) lent left
lent_first [] left = refl
lent_first (item ∷ lent) left = (shown lent ++ left, refl, lent_first lent left)

lent_before : {T : Type 0} (s t left : List (Option T)) (lent : List (Bor T)) → Yields lends s lent t
    → Yields lends (s ++ left) lent (t ++ left)
lent_before s t left [] yields = ap (λ s. s ++ left) yields
lent_before s t left (item ∷ lent) yields =
    (yields.0 ++ left, ap (λ s. s ++ left) yields.1, lent_before yields.0 t left lent yields.2)

then_lent : {T : Type 0} (s t : List (Option T)) (lent others : List (Bor T)) → Yields lends s others t
    → Yields lends (shown lent ++ s) (lent ++ others) t
then_lent s t [] others then = then
then_lent s t (item ∷ lent) others then = (shown lent ++ s, refl, then_lent s t lent others then)

-- the item of a number
pub record IsItemAt {T : Type 0} (items : List (Option T)) (i : ℕ) (x : T) : Type 0 where
  pub below : i < length items
  pub is : get_or items i None ≡ Some x

pub item_in_list : {T : Type 0} {items : List (Option T)} {i : ℕ} {x : T} → i < length items → get_or items i None ≡ Some x
    → IsItemAt items i x
item_in_list below is = record { below = below; is = is }

pub item_of_slice : {T : Type 0} (slice : List T) {i : ℕ} {x : T} → i < length slice → x ≡ get_or slice i x → IsItemAt (map Some slice) i x
item_of_slice slice {i} {x} below is = record {
  below = omega (arith, length-map slice Some);
  is = get_or-map Some slice i x None below ∙ ap Some (sym is);
}

module _ {P T : Type 0} {call : P → Bor T → P → Type 0} where
  -- ---- the items so far
  pub none_called : {p : P} → HasCalled call p [] p
  none_called = record { lent = []; are = refl; calls = refl }

  pub both_called : {p q r : P} {first then : List (Option T)} → HasCalled call p first q → HasCalled call q then r
      → HasCalled call p (first ++ then) r
  both_called {p} {q} {r} {first} {then} one other = record {
    lent = one.lent ++ other.lent;
    are = map-append (λ item. Some item.now) one.lent other.lent ∙ ap (λ items. items ++ shown other.lent) one.are
        ∙ ap (λ items. first ++ items) other.are;
    calls = then_folded call p q r one.lent other.lent one.calls other.calls;
  }

  one_called : {p q : P} (item : Bor T) → call p item q → HasCalled call p (Some item.now ∷ []) q
  one_called {q = q} item called = record { lent = item ∷ []; are = refl; calls = (q, called, refl) }

  pub first_called : {p q r : P} {items left : List (Option T)} (item : Bor T) → items ≡ Some item.now ∷ left → call p item q
      → HasCalled call q left r → HasCalled call p items r
  first_called {p} {r = r} item is called others =
      subst (λ items. HasCalled call p items r) (sym is) (both_called (one_called item called) others)

  -- one item more
  pub one_more_called : {p q r : P} {items : List (Option T)} {i : ℕ} (item : Bor T) → IsItemAt items i item.now → call q item r
      → HasCalled call p (take i items) q → HasCalled call p (take (i + 1) items) r
  one_more_called {p} {r = r} {items} {i} item at called done =
      subst (λ items. HasCalled call p items r) (sym (take_more items i None at.below ∙ ap (λ y. take i items ++ y ∷ []) at.is))
      (both_called done (one_called item called))

  -- ---- whether the function may be called
  module _ {Q : P → Bor T → Type 0} where
    pub callable_after : {p q : P} {items left : List (Option T)} → HasCalled call p items q
        → CallableAtEachTurn lends call Q (items ++ left) p → CallableAtEachTurn lends call Q left q
    callable_after {p} {q} {items} {left} done callable =
        let all = subst (λ items. CallableAtEachTurn lends call Q (items ++ left) p) (sym done.are) callable in
        record {
          at = λ xs t r x u yields calls step. all.at (done.lent ++ xs) t r x u (then_lent left t done.lent xs yields)
              (then_folded call p q r done.lent xs done.calls calls) step;
        }

    -- where it may be called at items and others, it may be at the items alone
    pub callable_in_part : {p : P} (items left : List (Option T)) → CallableAtEachTurn lends call Q (items ++ left) p
        → CallableAtEachTurn lends call Q items p
    callable_in_part items left callable = record {
      at = λ xs t q x u yields calls step.
          callable.at xs (t ++ left) q x (u ++ left) (lent_before items t left xs yields) calls (ap (λ s. s ++ left) step);
    }

    pub may_be_called : {p : P} {items : List (Option T)} {i : ℕ} {x : T} → IsItemAt items i x
        → CallableAtEachTurn lends call Q (drop i items) p → (item : Bor T) → item.now ≡ x → Q p item
    may_be_called {p} {items} {i} at callable item is =
        callable.at [] (drop i items) p item (drop (i + 1) items) refl refl
        (drop_more items i None at.below ∙ ap (λ y. y ∷ drop (i + 1) items) (at.is ∙ ap Some (sym is)))

    pub still_callable : {p q : P} {items : List (Option T)} {i : ℕ} (item : Bor T) → IsItemAt items i item.now → call p item q
        → CallableAtEachTurn lends call Q (drop i items) p → CallableAtEachTurn lends call Q (drop (i + 1) items) q
    still_callable {p} {items = items} {i} item at called callable =
        callable_after (one_called item called)
        (subst (λ left. CallableAtEachTurn lends call Q left p)
        (drop_more items i None at.below ∙ ap (λ y. y ∷ drop (i + 1) items) at.is) callable)

    -- where an item comes first
    pub first_may_be_called : {p : P} {items left : List (Option T)} (item : Bor T) → items ≡ Some item.now ∷ left
        → CallableAtEachTurn lends call Q items p → Q p item
    first_may_be_called {p} {items} {left} item is callable = callable.at [] items p item left refl refl is

    pub callable_after_first : {p q : P} {items left : List (Option T)} (item : Bor T) → items ≡ Some item.now ∷ left → call p item q
        → CallableAtEachTurn lends call Q items p → CallableAtEachTurn lends call Q left q
    callable_after_first {p} item is called callable =
        callable_after (one_called item called) (subst (λ items. CallableAtEachTurn lends call Q items p) is callable)

-- ---- all items
pub all_folded : {F B T : Type 0} {g : Mut F (B × (Bor T × Unit {0})) B} {f h : F} {init result : B} {items : List (Option T)}
    → HasFolded g (f, init) items (h, result) → FoldsItems lends g items f init result
all_folded {h = h} {items = items} done =
    let yields = subst (λ s. Yields lends s done.lent []) (append-nil (shown done.lent) ∙ done.are) (lent_first done.lent []) in
    (done.lent, h, ([], ([], yields, (refl, refl))), done.calls)

-- ---- a function that keeps no total, as one that does: `inside` reads it from the state of the other one
calls_inside : {F C T : Type 0} (g : Mut F (Bor T × Unit {0}) (Unit {0})) (other : Mut C (Unit {0} × (Bor T × Unit {0})) (Unit {0}))
    (inside : C → F)
    → ((s t : C) (x : Bor T) → Called other s (tt, (x, tt)) tt t → Called g (inside s) (x, tt) tt (inside t))
    → (xs : List (Bor T)) (p q : C × Unit {0}) → FoldsTo {P = C × Unit {0}} (FoldTurn other) p xs q
    → FoldsTo (λ p x q. Called g p (x, tt) tt q) (inside p.0) xs (inside q.0)
calls_inside g other inside says [] p q calls = ap (λ p. inside p.0) calls
calls_inside g other inside says (x ∷ xs) p q calls =
    (inside calls.0.0, says p.0 calls.0.0 x calls.1, calls_inside g other inside says xs calls.0 q calls.2)

pub callable_inside : {F C T : Type 0} (g : Mut F (Bor T × Unit {0}) (Unit {0})) (other : Mut C (Unit {0} × (Bor T × Unit {0})) (Unit {0}))
    (inside : C → F) → ((s : C) (x : Bor T) → Takes g (inside s) (x, tt) → Takes other s (tt, (x, tt)))
    → ((s t : C) (x : Bor T) → Called other s (tt, (x, tt)) tt t → Called g (inside s) (x, tt) tt (inside t))
    → {items : List (Option T)} (f : C)
    → CallableInForEach lends g items (inside f) → CallableInFold lends other items f tt
callable_inside g other inside asks says f callable = record {
  at = λ xs t q x u yields calls step. asks q.0 x
      (callable.at xs t (inside q.0) x u yields (calls_inside g other inside says xs (f, tt) q calls) step);
}

pub called_inside : {F C T : Type 0} (g : Mut F (Bor T × Unit {0}) (Unit {0})) (other : Mut C (Unit {0} × (Bor T × Unit {0})) (Unit {0}))
    (inside : C → F) → ((s t : C) (x : Bor T) → Called other s (tt, (x, tt)) tt t → Called g (inside s) (x, tt) tt (inside t))
    → {items : List (Option T)} (f : C) → FoldsItems lends other items f tt tt → CallsOnEach lends g items (inside f)
called_inside g other inside says f ran =
    (ran.0, inside ran.1, ran.2, calls_inside g other inside says ran.0 (f, tt) (ran.1, tt) ran.3)

-- ---- a function that calls another one, which is kept inside it
folds_inside : {F C B T : Type 0} (g : Mut F (B × (Bor T × Unit {0})) B) (other : Mut C (B × (Bor T × Unit {0})) B) (inside : C → F)
    → ((s t : C) (b r : B) (x : Bor T) → Called other s (b, (x, tt)) r t → Called g (inside s) (b, (x, tt)) r (inside t))
    → (xs : List (Bor T)) (p q : C × B) → FoldsTo {P = C × B} (FoldTurn other) p xs q
    → FoldsTo {P = F × B} (FoldTurn g) (inside p.0, p.1) xs (inside q.0, q.1)
folds_inside g other inside says [] p q calls = ap (λ p. (inside p.0, p.1)) calls
folds_inside g other inside says (x ∷ xs) p q calls =
    ((inside calls.0.0, calls.0.1), says p.0 calls.0.0 p.1 calls.0.1 x calls.1, folds_inside g other inside says xs calls.0 q calls.2)

pub may_fold_inside : {F C B T : Type 0} (g : Mut F (B × (Bor T × Unit {0})) B) (other : Mut C (B × (Bor T × Unit {0})) B) (inside : C → F)
    → ((s : C) (b : B) (x : Bor T) → Takes g (inside s) (b, (x, tt)) → Takes other s (b, (x, tt)))
    → ((s t : C) (b r : B) (x : Bor T) → Called other s (b, (x, tt)) r t → Called g (inside s) (b, (x, tt)) r (inside t))
    → {items : List (Option T)} {init : B} (f : C)
    → CallableInFold lends g items (inside f) init → CallableInFold lends other items f init
may_fold_inside g other inside asks says {init = init} f callable = record {
  at = λ xs t q x u yields calls step. asks q.0 q.1 x
      (callable.at xs t (inside q.0, q.1) x u yields (folds_inside g other inside says xs (f, init) q calls) step);
}

pub folded_inside : {F C B T : Type 0} (g : Mut F (B × (Bor T × Unit {0})) B) (other : Mut C (B × (Bor T × Unit {0})) B) (inside : C → F)
    → ((s t : C) (b r : B) (x : Bor T) → Called other s (b, (x, tt)) r t → Called g (inside s) (b, (x, tt)) r (inside t))
    → {items : List (Option T)} {init result : B} (f : C)
    → FoldsItems lends other items f init result → FoldsItems lends g items (inside f) init result
folded_inside g other inside says {init = init} {result} f ran =
    (ran.0, inside ran.1, ran.2, folds_inside g other inside says ran.0 (f, init) (ran.1, result) ran.3)
