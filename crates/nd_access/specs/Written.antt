-- What is left where items were written at places: they are there, and every other item is as before.
use Rattle.std.specs.Prelude.{◌≡◌, ℕ, ℤ, pos, Option, Some, None, List, [], ◌∷◌, map, slice_get, slice_index_or, unwrap_or, nat_eq, refl}
use Rattle.std.proofs.Common.{ap, eq-eqb}
use Rattle.std.proofs.Math.Nat.{not-suc-le-zero}
use Rattle.std.proofs.lemmas.Bool.{both_ways}
use Rattle.std.specs.List.{Contains}
use Rattle.nd_access.specs.Items.{item_at_place}
use Rattle.nd_access.specs.Mapped.{CallsMake}

-- at every other place is the same item in both lists, and none is past the end of one alone
abbrev pub KeepsAllBut : {T : Type 0} → List ℤ → List T → List T → Type 0
KeepsAllBut places old new = (place : ℕ) → (Contains places (pos place) → ⊥) → slice_get new place ≡ slice_get old place

-- the items are at the places, in their order
pub record HasSet {T : Type 0} (places : List ℤ) (items : List (Option T)) (old new : List T) : Type 0 where
  pub written : map (item_at_place new) places ≡ items
  pub others : KeepsAllBut places old new

-- calls in turn made the items at the places of the given ones
pub record Maps {F X Y : Type 0} (call : F → X → Y → F → Type 0) (f : F) (places : List ℤ) (given : List (Option X))
    (old new : List Y) : Type 0 where
  pub ran : CallsMake call f given (map (item_at_place new) places)
  pub others : KeepsAllBut places old new

-- examples
other_item_set : HasSet {T = ℕ} (pos 0 ∷ []) (Some 8 ∷ []) (7 ∷ []) (7 ∷ []) → ⊥
other_item_set left = both_ways (nat_eq 7 8) refl (eq-eqb 7 8 (ap (λ items. unwrap_or (slice_index_or items 0 None) 0) left.written))

another_changed : HasSet {T = ℕ} [] [] (7 ∷ []) (8 ∷ []) → ⊥
another_changed left =
    both_ways (nat_eq 8 7) refl (eq-eqb 8 7 (ap (λ item. unwrap_or item 0) (left.others 0 (λ here. absurd (not-suc-le-zero here.1)))))
