-- Laws of a function that is called at one item after another: at some and then at others.
use Rattle.std.proofs.Common.{◌≡◌, ℕ, ◌+◌, ◌<◌, List, [], ◌∷◌, ◌++◌, length, get_or, map, take, drop, refl, sym, ap}
use Rattle.std.proofs.Common.{subst, ◌∙◌}
use Rattle.std.specs.Fn.{Mut}
use Rattle.std.specs.Iterator.{CallableAtEachTurn, FoldsItems, Yields}
use Rattle.std.specs.List.{FoldsTo}
use Rattle.std.proofs.lemmas.List.{append-nil, drop_more, map-append, take_more}
use Rattle.ndarray_layout.specs.Folded.{HasCalled, HasFolded, gives}

-- a list folded in two parts
pub then_folded : {P A : Type 0} (R : P → A → P → Type 0) (p q r : P) (xs ys : List A) → FoldsTo R p xs q → FoldsTo R q ys r
    → FoldsTo R p (xs ++ ys) r
then_folded R p q r [] ys first then = subst (λ p. FoldsTo R p ys r) (sym first) then
then_folded R p q r (x ∷ xs) ys first then = (first.0, first.1, then_folded R first.0 q r xs ys first.2 then)

-- an item of a list by its number
pub record IsItemAt {B : Type 0} (items : List B) (i : ℕ) (item : B) : Type 0 where
  pub below : i < length items
  pub default : B
  pub is : get_or items i default ≡ item

pub item_in_list : {B : Type 0} {items : List B} {i : ℕ} (default : B) {item : B} → i < length items → get_or items i default ≡ item
    → IsItemAt items i item
item_in_list default below is = record { below = below; default = default; is = is }

-- it comes first of those from its number on
pub comes_first : {B : Type 0} {items : List B} {i : ℕ} {item : B} → IsItemAt items i item → drop i items ≡ item ∷ drop (i + 1) items
comes_first {items = items} {i} at = drop_more items i at.default at.below ∙ ap (λ y. y ∷ drop (i + 1) items) at.is

module _ {A B : Type 0} (seen : A → B) where
  -- items that come one after another leave the others
  pub given_first : (given : List A) (left : List B) → Yields (gives seen) (map seen given ++ left) given left
  given_first [] left = refl
  given_first (item ∷ given) left = (map seen given ++ left, refl, given_first given left)

  given_before : (s t left : List B) (given : List A) → Yields (gives seen) s given t → Yields (gives seen) (s ++ left) given (t ++ left)
  given_before s t left [] yields = ap (λ s. s ++ left) yields
  given_before s t left (item ∷ given) yields =
      (yields.0 ++ left, ap (λ s. s ++ left) yields.1, given_before yields.0 t left given yields.2)

  then_given : (s t : List B) (given others : List A) → Yields (gives seen) s others t
      → Yields (gives seen) (map seen given ++ s) (given ++ others) t
  then_given s t [] others then = then
  then_given s t (item ∷ given) others then = (map seen given ++ s, refl, then_given s t given others then)

module _ {A B : Type 0} {seen : A → B} where
  module _ {P : Type 0} {call : P → A → P → Type 0} where
    -- ---- the items so far
    pub none_called : {p : P} → HasCalled seen call p [] p
    none_called = record { given = []; are = refl; calls = refl }

    pub both_called : {p q r : P} {first then : List B} → HasCalled seen call p first q → HasCalled seen call q then r
        → HasCalled seen call p (first ++ then) r
    both_called {p} {q} {r} {first} {then} one other = record {
      given = one.given ++ other.given;
      are = map-append seen one.given other.given ∙ ap (λ items. items ++ map seen other.given) one.are
          ∙ ap (λ items. first ++ items) other.are;
      calls = then_folded call p q r one.given other.given one.calls other.calls;
    }

    one_called : {p q : P} (item : A) → call p item q → HasCalled seen call p (seen item ∷ []) q
    one_called {q = q} item called = record { given = item ∷ []; are = refl; calls = (q, called, refl) }

    -- one item more
    pub one_more_called : {p q r : P} {items : List B} {i : ℕ} (item : A) → IsItemAt items i (seen item) → call q item r
        → HasCalled seen call p (take i items) q → HasCalled seen call p (take (i + 1) items) r
    one_more_called {p} {r = r} {items} {i} item at called done =
        subst (λ items. HasCalled seen call p items r)
        (sym (take_more items i at.default at.below ∙ ap (λ y. take i items ++ y ∷ []) at.is))
        (both_called done (one_called item called))

    -- an item, and then the others
    pub first_called : {p q r : P} {items left : List B} (item : A) → items ≡ seen item ∷ left → call p item q
        → HasCalled seen call q left r → HasCalled seen call p items r
    first_called {p} {r = r} item is called others =
        subst (λ items. HasCalled seen call p items r) (sym is) (both_called (one_called item called) others)

    -- ---- whether the function may be called
    module _ {Q : P → A → Type 0} where
      pub callable_after : {p q : P} {items left : List B} → HasCalled seen call p items q
          → CallableAtEachTurn (gives seen) call Q (items ++ left) p → CallableAtEachTurn (gives seen) call Q left q
      callable_after {p} {q} {items} {left} done callable =
          let all = subst (λ items. CallableAtEachTurn (gives seen) call Q (items ++ left) p) (sym done.are) callable in
          record {
            at = λ xs t r x u yields calls step. all.at (done.given ++ xs) t r x u (then_given seen left t done.given xs yields)
                (then_folded call p q r done.given xs done.calls calls) step;
          }

      -- where it may be called at items and others, it may be at the items alone
      pub callable_in_part : {p : P} (items left : List B) → CallableAtEachTurn (gives seen) call Q (items ++ left) p
          → CallableAtEachTurn (gives seen) call Q items p
      callable_in_part items left callable = record {
        at = λ xs t q x u yields calls step.
            callable.at xs (t ++ left) q x (u ++ left) (given_before seen items t left xs yields) calls (ap (λ s. s ++ left) step);
      }

      -- where an item comes first
      pub first_may_be_called : {p : P} {items left : List B} (item : A) → items ≡ seen item ∷ left
          → CallableAtEachTurn (gives seen) call Q items p → Q p item
      first_may_be_called {p} {items} {left} item is callable = callable.at [] items p item left refl refl is

      pub callable_after_first : {p q : P} {items left : List B} (item : A) → items ≡ seen item ∷ left → call p item q
          → CallableAtEachTurn (gives seen) call Q items p → CallableAtEachTurn (gives seen) call Q left q
      callable_after_first {p} item is called callable =
          callable_after (one_called item called) (subst (λ items. CallableAtEachTurn (gives seen) call Q items p) is callable)

      -- at the item of a number
      pub may_be_called : {p : P} {items : List B} {i : ℕ} {y : B} → IsItemAt items i y
          → CallableAtEachTurn (gives seen) call Q (drop i items) p → (item : A) → seen item ≡ y → Q p item
      may_be_called {p} {items} {i} at callable item is =
          first_may_be_called item (comes_first at ∙ ap (λ y. y ∷ drop (i + 1) items) (sym is)) callable

      pub still_callable : {p q : P} {items : List B} {i : ℕ} (item : A) → IsItemAt items i (seen item) → call p item q
          → CallableAtEachTurn (gives seen) call Q (drop i items) p → CallableAtEachTurn (gives seen) call Q (drop (i + 1) items) q
      still_callable {p} {items = items} {i} item at called callable =
          callable_after_first item (comes_first at) called callable

-- all items
pub all_folded : {F T A B : Type 0} {seen : A → B} {g : Mut F (T × (A × Unit {0})) T} {f h : F} {init result : T} {items : List B}
    → HasFolded seen g (f, init) items (h, result) → FoldsItems (gives seen) g items f init result
all_folded {seen = seen} {h = h} {items = items} done =
    let yields = subst (λ s. Yields (gives seen) s done.given []) (append-nil (map seen done.given) ∙ done.are)
    (given_first seen done.given []) in
    (done.given, h, ([], ([], yields, (refl, refl))), done.calls)
