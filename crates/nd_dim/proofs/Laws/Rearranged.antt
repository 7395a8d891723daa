-- A list whose items differ and are all in another of its length is that list in another order.
use Rattle.std.proofs.Common.{◌≡◌, ◌≢◌, ◌⊎◌, ℕ, zero, suc, ◌<◌, List, [], ◌∷◌, length, get_or, refl, sym, ◌∙◌, arith, inl, inr, subst}
use Rattle.std.specs.List.{AllPairs, Contains}
use Rattle.std.specs.List.Sorted.{IsPermutation}
use Rattle.std.specs.Prelude.{remove}
use Rattle.std.proofs.lemmas.List.{nil_from_length}
use Rattle.std.proofs.lemmas.List.Sorted.{Contains-permutation, IsPermutation-cons, IsPermutation-refl, IsPermutation-remove}
use Rattle.std.proofs.lemmas.List.Sorted.{IsPermutation-sym, IsPermutation-trans, length_permutation}

contains_at : {X : Type 0} (x : X) (xs : List X) (z : X) (k : ℕ) → k < length (x ∷ xs) → get_or (x ∷ xs) k z ≡ z → (x ≡ z) ⊎ Contains xs z
contains_at x xs z zero h e = inl e
contains_at x xs z (suc k) h e = inr (k, omega arith, e)

-- an item of the later ones is none of the first
differs_from_first : {X : Type 0} (x : X) (xs : List X) (z : X) → AllPairs (λ a b. a ≢ b) (x ∷ xs) → Contains xs z → x ≢ z
differs_from_first x xs z apart found same =
    let last : suc found.0 < length (x ∷ xs) = let l = found.1 in omega arith in
    apart 0 (suc found.0) z (omega arith) last (same ∙ sym found.2)

-- where an item is taken out of both, the later ones are still among the others
still_there : {X : Type 0} (x : X) (xs ys : List X) (z : X) → AllPairs (λ a b. a ≢ b) (x ∷ xs) → Contains xs z → Contains (x ∷ ys) z
    → Contains ys z
still_there x xs ys z apart found there = elim (contains_at x ys z there.0 there.1 there.2) [
  | inl same ↦ absurd (differs_from_first x xs z apart found same)
  | inr rest ↦ rest
]

-- where an item is taken out of both lists, as many are left, and those left of the first are among those of the other
pub record TakenOut {X : Type 0} (x : X) (xs ys : List X) : Type 0 where
  pub at : ℕ
  pub in_bounds : at < length ys
  pub is : get_or ys at x ≡ x
  pub count : length xs ≡ length (remove ys at)
  pub there : (z : X) → Contains xs z → Contains (remove ys at) z

pub taken_out : {X : Type 0} (x : X) (xs ys : List X) → AllPairs (λ a b. a ≢ b) (x ∷ xs) → length (x ∷ xs) ≡ length ys
    → ((z : X) → Contains (x ∷ xs) z → Contains ys z) → TakenOut x xs ys
taken_out x xs ys apart count h =
    let found = h x (0, omega arith, refl) in
    let others = remove ys found.0 in
    let moved : IsPermutation ys (x ∷ others) = IsPermutation-remove ys found.0 x found.1 (sym found.2) in
    let many : length (x ∷ others) ≡ length ys = length_permutation ys (x ∷ others) moved in
    record {
      at = found.0;
      in_bounds = found.1;
      is = found.2;
      count = omega arith;
      there = λ z c. still_there x xs others z apart c
          (Contains-permutation ys (x ∷ others) z moved (h z (suc c.0, (let l = c.1 in omega arith), c.2)));
    }

-- so are the later ones
pub later_apart : {X : Type 0} (x : X) (xs : List X) → AllPairs (λ a b. a ≢ b) (x ∷ xs) → AllPairs (λ a b. a ≢ b) xs
later_apart x xs apart i j d l g = apart (suc i) (suc j) d (omega arith) (omega arith)

pub permutation_from_members : {X : Type 0} (xs ys : List X) → AllPairs (λ a b. a ≢ b) xs → length xs ≡ length ys
    → ((z : X) → Contains xs z → Contains ys z) → IsPermutation xs ys
permutation_from_members {X = X} [] ys apart count h =
    let P : List X → Type 0 = λ zs. IsPermutation [] zs in
    subst P (sym (nil_from_length ys (sym count))) (IsPermutation-refl [])
permutation_from_members (x ∷ xs) ys apart count h =
    let out = taken_out x xs ys apart count h in
    let others = remove ys out.at in
    let moved : IsPermutation ys (x ∷ others) = IsPermutation-remove ys out.at x out.in_bounds (sym out.is) in
    let rest : IsPermutation xs others = permutation_from_members xs others (later_apart x xs apart) out.count out.there in
    IsPermutation-trans (x ∷ xs) (x ∷ others) ys (IsPermutation-cons x xs others rest) (IsPermutation-sym ys (x ∷ others) moved)
