-- Laws of what is in a list: whether a place is, and which item of a list that begins with another one.
use Rattle.std.proofs.Common.{◌≡◌, ◌⊎◌, ℤ, zero, suc, List, ◌∷◌, sym, ◌∙◌, inl, inr, arith}
use Rattle.std.specs.List.{Contains, list_any}
use Rattle.std.specs.Ordering.{int_eq}
use Rattle.std.proofs.lemmas.Bool.{cases_Bool, false≢true}
use Rattle.std.proofs.lemmas.Bool.Decides.{Decides-int_eq}
use Rattle.std.proofs.lemmas.Cmp.{int_eq_equiv}
use Rattle.std.proofs.lemmas.Map.Views.{list_any-from_Contains, Contains-from_any}

-- an item is the first one, or one of the rest
pub first_or_rest : {X : Type 0} (x : X) (xs : List X) (y : X) → Contains (x ∷ xs) y → (x ≡ y) ⊎ Contains xs y
first_or_rest x xs y (zero, below, is) = inl is
first_or_rest x xs y (suc k, below, is) = inr (k, omega (arith, below), is)

-- a place is listed or not
pub cases_listed : (places : List ℤ) (z : ℤ) → Contains places z ⊎ (Contains places z → ⊥)
cases_listed places z = elim (cases_Bool (list_any (int_eq z) places)) [
  | inl some ↦ inl (Contains-from_any (λ x y e. (Decides-int_eq x y).0 e) z places some)
  | inr none ↦ inr (λ here. false≢true (sym none ∙ list_any-from_Contains int_eq_equiv z places here))
]
