-- A law of `fold` over items that are lent: what holds at first, and is kept by each call, lets the function be called, and holds in the
-- end. It says what a loop's invariant says of a loop.
use Rattle.std.proofs.Common.{Option, Some, List, [], ◌∷◌, subst, Bor}
use Rattle.std.specs.Fn.{Called, Mut, Takes}
use Rattle.std.specs.Iterator.{CallableInFold, FoldTurn, FoldsItems, Yields}
use Rattle.std.specs.List.{FoldsTo}
use Rattle.nd_access.specs.Lending.{lends}

module _ {F B T : Type 0} (g : Mut F (B × (Bor T × Unit {0})) B) (Holds : List (Option T) → F → B → Type 0) where
  -- of the items that are left, of the function and of the total so far it holds; then the function may be called at the first of them
  pub record IsKept : Type 0 where
    pub takes : (item : Bor T) (left : List (Option T)) (f : F) (total : B) → Holds (Some item.now ∷ left) f total
        → Takes g f (total, (item, tt))
    pub keeps : (item : Bor T) (left : List (Option T)) (f h : F) (total next : B) → Holds (Some item.now ∷ left) f total
        → Called g f (total, (item, tt)) next h → Holds left h next

  after_calls : IsKept → (items left : List (Option T)) (lent : List (Bor T)) (f h : F) (total next : B) → Holds items f total
      → Yields lends items lent left → FoldsTo {P = F × B} (FoldTurn g) (f, total) lent (h, next) → Holds left h next
  after_calls kept items left [] f h total next first yields calls =
      subst (λ p. Holds left p.0 p.1) calls (subst (λ items. Holds items f total) yields first)
  after_calls kept items left (item ∷ lent) f h total next first yields calls =
      after_calls kept yields.0 left lent calls.0.0 h calls.0.1 next
      (kept.keeps item yields.0 f calls.0.0 total calls.0.1 (subst (λ items. Holds items f total) yields.1 first) calls.1)
      yields.2 calls.2

  pub callable_in_fold : IsKept → {items : List (Option T)} {f : F} {init : B} → Holds items f init → CallableInFold lends g items f init
  callable_in_fold kept {items} {f} {init} first = record {
    at = λ lent left p item others yields calls step. kept.takes item others p.0 p.1
        (subst (λ left. Holds left p.0 p.1) step (after_calls kept items left lent f p.0 init p.1 first yields calls));
  }

  pub after_fold : IsKept → {items : List (Option T)} {f : F} {init result : B} → Holds items f init
      → FoldsItems lends g items f init result
      → (h : F) × Holds [] h result
  after_fold kept {items} {f} {init} {result} first ran = (
    ran.1,
    subst (λ left. Holds left ran.1 result) ran.2.1.2.0
        (after_calls kept items ran.2.1.0 ran.0 f ran.1 init result first ran.2.1.1 ran.3),
  )
