-- Calls of a closure at one place after another, with the closure as they left it: what the contracts of private functions speak of.
use Rattle.std.specs.Prelude.{◌≡◌, ℕ, ◌+◌, ℤ, Option, List, [], ◌∷◌, map, zip, nat_eq, refl}
use Rattle.std.proofs.Common.{eq-eqb}
use Rattle.std.proofs.lemmas.Bool.{both_ways}
use Rattle.std.specs.List.{FoldsTo}
use Rattle.std.specs.List.Sorted.{IsPermutation}
use Rattle.nd_access.specs.Items.{item_at_place}
use Rattle.nd_access.specs.Mapped.{Makes}
use Rattle.nd_access.specs.Written.{Maps, KeepsAllBut}

-- calls in turn made the items at the places of the given ones, and left the closure so
pub record MapsTo {F X Y : Type 0} (call : F → X → Y → F → Type 0) (f : F) (places : List ℤ) (given : List (Option X))
    (old new : List Y) (last : F) : Type 0 where
  pub calls : FoldsTo (Makes call) f (zip given (map (item_at_place new) places)) last
  pub others : KeepsAllBut places old new

-- the same at each of these places once, in some order
pub record MapsAt {F X : Type 0} (call : F → X → X → F → Type 0) (f : F) (all : List ℤ) (old new : List X) : Type 0 where
  pub places : List ℤ
  pub each_once : IsPermutation places all
  pub run : Maps call f places (map (item_at_place old) places) old new

-- examples: a call that adds what it counts, from 5 on
abbrev counts : ℕ → ℕ → ℕ → ℕ → Type 0
counts before x y after = (y ≡ x + before) × (after ≡ before + 1)

no_call : MapsTo counts 5 [] [] (7 ∷ []) (7 ∷ []) 5
no_call = record { calls = refl; others = λ place spared. refl }

another_left : MapsTo counts 5 [] [] (7 ∷ []) (7 ∷ []) 6 → ⊥
another_left run = both_ways (nat_eq 5 6) refl (eq-eqb 5 6 run.calls)
