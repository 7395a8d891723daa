-- Items that are lent one after another to a function: what the contracts of private functions speak of.
use Rattle.std.specs.Prelude.{◌≡◌, ℕ, Option, Some, List, [], ◌∷◌, length, map, nat_eq, refl, take}
use Rattle.std.specs.Fn.{Mut}
use Rattle.std.specs.Borrow.{MutBor}
use Rattle.std.specs.Iterator.{FoldTurn}
use Rattle.std.specs.List.{FoldsTo}
use Rattle.std.proofs.Common.{Bor, ap, eq-eqb}
use Rattle.std.proofs.lemmas.Bool.{both_ways}
use Rattle.ndarray_layout.specs.Folded

-- one call of a function after another, each at the next item that is lent, took the state before to the one after
pub record HasCalled {P T : Type 0} (call : P → Bor T → P → Type 0) (before : P) (items : List (Option T)) (after : P) : Type 0 where
  pub lent : List (Bor T)
  pub are : map (λ item. Some item.now) lent ≡ items
  pub calls : FoldsTo call before lent after

-- so did a function that is called with a total, which is kept beside it
abbrev pub HasFolded : {F B T : Type 0} → Mut F (B × (Bor T × Unit {0})) B → F × B → List (Option T) → F × B → Type 0
HasFolded g before items after = HasCalled (FoldTurn g) before items after

-- the same of items that are lent to be written
abbrev pub HasFoldedMut : {F B T : Type 0} → Mut F (B × (MutBor T × Unit {0})) B → F × B → List (Option T) → F × B → Type 0
HasFoldedMut g before items after = Folded.HasFolded (λ item. Some item.now) g before items after

-- examples
one_call : {F B : Type 0} {g : Mut F (B × (Bor ℕ × Unit {0})) B} {before after : F × B} (item : Bor ℕ) → FoldTurn g before item after
    → HasFolded g before (Some item.now ∷ []) after
one_call {after = after} item turn = record { lent = item ∷ []; are = refl; calls = (after, turn, refl) }

no_call : {F B : Type 0} {g : Mut F (B × (Bor ℕ × Unit {0})) B} {before after : F × B} → HasFolded g before [] after → before ≡ after
no_call {g = g} {before} {after} folded = by folded.lent folded.are folded.calls
  where
    by : (lent : List (Bor ℕ)) → map (λ item. Some item.now) lent ≡ [] → FoldsTo (FoldTurn g) before lent after → before ≡ after
    by [] are calls = calls
    by (item ∷ lent) are calls = absurd (both_ways (nat_eq 1 0) refl (eq-eqb 1 0 (ap (λ items. length (take 1 items)) are)))

one_call_mut : {F B : Type 0} {g : Mut F (B × (MutBor ℕ × Unit {0})) B} {before after : F × B} (item : MutBor ℕ)
    → FoldTurn g before item after → HasFoldedMut g before (Some item.now ∷ []) after
one_call_mut {after = after} item turn = record { given = item ∷ []; are = refl; calls = (after, turn, refl) }
