-- A function that is called at items that are lent from the last one on, one after another.
use Rattle.std.proofs.Common.{◌≡◌, ℕ, ◌-◌, ◌<◌, Option, Some, None, List, [], ◌∷◌, ◌++◌, length, get_or, map, refl}
use Rattle.std.proofs.Common.{reverse, sym, ap, subst, ◌∙◌, Bor, arith}
use Rattle.std.specs.Fn.{Mut}
use Rattle.std.specs.Iterator.{CallableInFold, FoldsItems, Yields}
use Rattle.std.proofs.lemmas.List.{append-nil, append_assoc, get_or-reverse, length-reverse, map_push, reverse-append, reverse-reverse}
use Rattle.nd_access.specs.Lending.{lends, lends_last}
use Rattle.nd_access.specs.Folded.{HasFolded}
use Rattle.nd_access.proofs.Laws.Folding.{IsItemAt, shown}

-- items that are lent from the last one on leave those before them
lent_last : {T : Type 0} (lent : List (Bor T)) (left : List (Option T)) → Yields lends_last (left ++ reverse (shown lent)) lent left
lent_last [] left = append-nil left
lent_last (item ∷ lent) left = (
  left ++ reverse (shown lent),
  ap (λ items. left ++ items) (reverse-append (Some item.now ∷ []) (shown lent))
      ∙ sym (append_assoc left (reverse (shown lent)) (Some item.now ∷ [])),
  lent_last lent left,
)

-- those of a list from its front are those of the reversed list from its back
turned : {T : Type 0} (s t : List (Option T)) (lent : List (Bor T)) → Yields lends s lent t → Yields lends_last (reverse s) lent (reverse t)
turned s t [] yields = ap reverse yields
turned s t (item ∷ lent) yields = (
  reverse yields.0,
  ap reverse yields.1 ∙ reverse-append (Some item.now ∷ []) yields.0,
  turned yields.0 t lent yields.2,
)

-- ---- whether the function may be called, and what it has done
pub callable_turned : {F B T : Type 0} {g : Mut F (B × (Bor T × Unit {0})) B} {f : F} {init : B} (items : List (Option T))
    → CallableInFold lends_last g items f init → CallableInFold lends g (reverse items) f init
callable_turned items callable = record {
  at = λ xs t q x u yields calls step. callable.at xs (reverse t) q x (reverse u)
      (subst (λ s. Yields lends_last s xs (reverse t)) (reverse-reverse items) (turned (reverse items) t xs yields))
      calls (ap reverse step ∙ reverse-append (Some x.now ∷ []) u);
}

pub all_folded_back : {F B T : Type 0} {g : Mut F (B × (Bor T × Unit {0})) B} {f h : F} {init result : B} (items : List (Option T))
    → HasFolded g (f, init) (reverse items) (h, result) → FoldsItems lends_last g items f init result
all_folded_back {h = h} items done =
    let yields = subst (λ s. Yields lends_last s done.lent []) (ap reverse done.are ∙ reverse-reverse items) (lent_last done.lent []) in
    (done.lent, h, ([], ([], yields, (refl, refl))), done.calls)

-- ---- the item of a number, from the end
pub item_from_last : {T : Type 0} (items : List (Option T)) {i n : ℕ} {x : T} → n ≡ length items → i < n
    → get_or items (n - 1 - i) None ≡ Some x → IsItemAt (reverse items) i x
item_from_last items {i} long below is = record {
  below = omega (arith, below, long, length-reverse items);
  is = get_or-reverse items i None (omega (arith, below, long)) ∙ ap (λ n. get_or items (n - 1 - i) None) (sym long) ∙ is;
}

-- the last item of a slice comes first
pub last_comes_first : {T : Type 0} {slice : List T} (left : List T) {x : T} → slice ≡ left ++ x ∷ []
    → reverse (map Some slice) ≡ Some x ∷ reverse (map Some left)
last_comes_first left {x} is =
    ap (λ items. reverse (map Some items)) is ∙ ap reverse (map_push Some left x) ∙ reverse-append (map Some left) (Some x ∷ [])

pub none_are_left : {T : Type 0} (slice : List T) → length slice ≡ 0 → reverse (map Some slice) ≡ []
none_are_left [] none = refl
none_are_left (x ∷ slice) none = absurd (omega (arith, none))
