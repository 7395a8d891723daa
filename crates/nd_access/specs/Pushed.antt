-- Calls of a closure whose results come after the items of a list: what the contracts of private functions speak of.
use Rattle.std.specs.Prelude.{◌≡◌, ℕ, ◌+◌, Option, Some, List, [], ◌∷◌, ◌++◌, length, map, take, zip, nat_eq, refl}
use Rattle.std.proofs.Common.{ap, eq-eqb}
use Rattle.std.proofs.lemmas.Bool.{both_ways}
use Rattle.std.specs.List.{FoldsTo}
use Rattle.nd_access.specs.Mapped.{Makes}

-- calls in turn made, of the given items, those that the new list has after the old ones, and left the closure so
pub record HasPushed {F X Y : Type 0} (call : F → X → Y → F → Type 0) (f : F) (given : List (Option X)) (old new : List Y) (last : F)
    : Type 0 where
  pub made : List Y
  pub are : new ≡ old ++ made
  pub count : length made ≡ length given
  pub calls : FoldsTo (Makes call) f (zip given (map Some made)) last

-- examples: a call that adds what it counts, from 5 on
abbrev counts : ℕ → ℕ → ℕ → ℕ → Type 0
counts before x y after = (y ≡ x + before) × (after ≡ before + 1)

two_calls : HasPushed counts 5 (Some 10 ∷ Some 20 ∷ []) (7 ∷ []) (7 ∷ 15 ∷ 26 ∷ []) 7
two_calls = record { made = 15 ∷ 26 ∷ []; are = refl; count = refl; calls = (6, (refl, refl), (7, (refl, refl), refl)) }

none_made : HasPushed counts 5 (Some 10 ∷ []) [] [] 5 → ⊥
none_made pushed = by pushed.made pushed.are pushed.count
  where
    by : (made : List ℕ) → [] ≡ made → length made ≡ 1 → ⊥
    by [] are count = both_ways (nat_eq 0 1) refl (eq-eqb 0 1 count)
    by (x ∷ made) are count = both_ways (nat_eq 0 1) refl (eq-eqb 0 1 (ap (λ items. length (take 1 items)) are))
