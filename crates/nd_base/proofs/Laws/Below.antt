-- Laws of the numbers below another, as a list.
use Rattle.std.proofs.Common.{◌≡◌, ◌≢◌, ℕ, ◌+◌, ◌<◌, Bool, true, List, [], ◌∷◌, ◌++◌, length, get_or, sym, ap, ◌∙◌, arith}
use Rattle.std.specs.List.{All, AllPairs, list_all}
use Rattle.std.proofs.lemmas.List.{map-id}
use Rattle.std.proofs.lemmas.List.FromFn.{fill_by_all, get_or-range_with_len, length-range_with_len, map-range_with_len_more}
use Rattle.std.proofs.lemmas.List.Sums.{AllPass-from_list_all, list_all-from_AllPass}
use Rattle.nd_base.proofs.Laws.Definitions.{below}

-- n of them
pub length-below : (n : ℕ) → length (below n) ≡ n
length-below n = length-range_with_len 0 n

-- each at its own place
pub get_or-below : (n k d : ℕ) → k < n → get_or (below n) k d ≡ k
get_or-below n k d h = get_or-range_with_len 0 n k d h ∙ omega arith

-- and no other list has them so
pub below_by_places : (xs : List ℕ) (n : ℕ) → length xs ≡ n → ((k : ℕ) → k < n → get_or xs k 0 ≡ k) → xs ≡ below n
below_by_places xs n count h = fill_by_all (λ k. k) xs n 0 count h ∙ map-id (below n)

-- each is below n
pub All-below : (n : ℕ) → All (λ k. k < n) (below n)
All-below n k d h = omega (arith, length-below n, get_or-below n k d (omega (arith, length-below n)))

-- no two are equal
pub AllPairs-below : (n : ℕ) → AllPairs (λ a b. a ≢ b) (below n)
AllPairs-below n i j d before in_bounds same =
    let last : j < n = omega (arith, length-below n) in
    omega (arith, get_or-below n i d (omega arith), get_or-below n j d last)

-- one more is the last one
pub below_more : (n : ℕ) → below (n + 1) ≡ below n ++ n ∷ []
below_more n = sym (map-id (below (n + 1))) ∙ map-range_with_len_more (λ k. k) 0 n n (omega arith)
    ∙ ap (λ xs. xs ++ n ∷ []) (map-id (below n))

-- ---- a test of each
module _ (p : ℕ → Bool) (n : ℕ) where
  pub all_below : ((k : ℕ) → k < n → p k ≡ true) → list_all p (below n) ≡ true
  all_below h =
      list_all-from_AllPass p (below n) (λ k d l.
      let in_bounds : k < n = omega (arith, length-below n) in
      rw (get_or-below n k d in_bounds) (h k in_bounds))

  pub passes_below : list_all p (below n) ≡ true → (k : ℕ) → k < n → p k ≡ true
  passes_below all k h =
      rw (get_or-below n k 0 h) at (AllPass-from_list_all p (below n) all k 0 (omega (arith, length-below n)))
