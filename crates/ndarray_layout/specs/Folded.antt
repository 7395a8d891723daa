-- A function that is called at one item after another.
use Rattle.std.specs.Prelude.{◌≡◌, ℕ, ◌+◌, pos, Option, Some, None, List, [], ◌∷◌, length, map, nat_eq, refl}
use Rattle.std.specs.Fn.{Mut}
use Rattle.std.specs.Iterator.{FoldTurn, YieldsFirstBy}
use Rattle.std.specs.List.{FoldsTo}
use Rattle.std.proofs.Common.{ap, eq-eqb}
use Rattle.std.proofs.lemmas.Bool.{both_ways}

-- of what is left, as it is seen, the first item comes and the others are left; none comes where none is left
abbrev pub gives : {A B : Type 0} → (A → B) → List B → Option A → List B → Type 0
gives seen = YieldsFirstBy seen (λ left. left)

-- one call after another, each at the next item, took the state before to the one after
pub record HasCalled {P A B : Type 0} (seen : A → B) (call : P → A → P → Type 0) (before : P) (items : List B) (after : P) : Type 0 where
  pub given : List A
  pub are : map seen given ≡ items
  pub calls : FoldsTo call before given after

-- so did a function that is called with a total, which is kept beside it
abbrev pub HasFolded : {F T A B : Type 0} → (A → B) → Mut F (T × (A × Unit {0})) T → F × T → List B → F × T → Type 0
HasFolded seen g before items after = HasCalled seen (FoldTurn g) before items after

-- examples
first_place_comes : gives pos (pos 3 ∷ pos 8 ∷ []) (Some 3) (pos 8 ∷ [])
first_place_comes = refl

none_comes : gives {A = ℕ} pos [] None []
none_comes = (refl, refl)

added : HasCalled {A = ℕ} pos (λ before item after. after ≡ before + item) 1 (pos 3 ∷ pos 8 ∷ []) 12
added = record { given = 3 ∷ 8 ∷ []; are = refl; calls = (4, refl, (12, refl, refl)) }

still_left : gives pos (pos 3 ∷ []) (Some 3) (pos 3 ∷ []) → ⊥
still_left left = both_ways (nat_eq 1 2) refl (eq-eqb 1 2 (ap length left))
