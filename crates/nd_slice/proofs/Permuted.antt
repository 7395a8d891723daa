-- What holds of each two items of a list, whichever is first, holds of each two of the list in another order.
use Rattle.std.proofs.Common.{◌≡◌, ◌≢◌, ℕ, ◌<◌, ◌⊎◌, inl, inr, List, length, get_or, set, sym, ◌∙◌, ap, subst, arith}
use Rattle.std.specs.List.{AllPairs, swap}
use Rattle.std.specs.List.Sorted.{IsPermutation}
use Rattle.std.proofs.lemmas.Bool.{cases_eq, cases_lt}
use Rattle.std.proofs.lemmas.List.{get_or-set_other, get_or-set_same, length-set}
use Rattle.std.proofs.lemmas.List.Edits.{swap_is}
use Rattle.std.proofs.lemmas.List.Sorted.{IsPermutation-keeps}

module _ {X : Type 0} (R : X → X → Type 0) (symmetric : (x y : X) → R x y → R y x) where
  -- it holds of any two positions
  pub record AnyTwo (xs : List X) : Type 0 where
    pub holds : (i j : ℕ) (d : X) → i ≢ j → i < length xs → j < length xs → R (get_or xs i d) (get_or xs j d)

  pub any_two : (xs : List X) → AllPairs R xs → AnyTwo xs
  any_two xs all = record {
    holds = λ i j d apart under below. elim (cases_lt i j) [
      | inl less ↦ all i j d less below
      | inr more ↦ symmetric (get_or xs j d) (get_or xs i d) (all j i d (omega (arith, more, apart)) under)
    ];
  }

  -- where an item of a list stood before two changed places
  abbrev StoodAt : ℕ → ℕ → ℕ → ℕ → Type 0
  StoodAt a b k j = ((k ≡ b) × (j ≡ a)) ⊎ (((k ≢ b) × (k ≡ a) × (j ≡ b)) ⊎ ((k ≢ b) × (k ≢ a) × (j ≡ k)))

  module _ (xs : List X) (a b : ℕ) (a_below : a < length xs) (b_below : b < length xs) where
    stood_at : (k : ℕ) (d : X) → (j : ℕ) × StoodAt a b k j × (get_or (swap xs a b) k d ≡ get_or xs j d)
    stood_at k d =
        let first = set xs a (get_or xs b d) in
        let read : get_or (swap xs a b) k d ≡ get_or (set first b (get_or xs a d)) k d =
        ap (λ ys. get_or ys k d) (sym (swap_is xs a b d a_below b_below)) in
        let long : b < length first = omega (arith, b_below, length-set xs a (get_or xs b d)) in
        elim (cases_eq k b) [
          | inl at ↦ (
            a,
            inl (at, omega arith),
            read
                ∙ subst (λ n. get_or (set first b (get_or xs a d)) n d ≡ get_or xs a d) (sym at)
                (get_or-set_same first b (get_or xs a d) d long),
          )
          | inr other ↦ elim (cases_eq k a) [
            | inl at ↦ (
              b,
              inr (inl (other, at, omega arith)),
              read ∙ get_or-set_other first b k (get_or xs a d) d other
                  ∙ subst (λ n. get_or first n d ≡ get_or xs b d) (sym at) (get_or-set_same xs a (get_or xs b d) d a_below),
            )
            | inr neither ↦ (
              k,
              inr (inr (other, neither, omega arith)),
              read ∙ get_or-set_other first b k (get_or xs a d) d other
                  ∙ get_or-set_other xs a k (get_or xs b d) d neither,
            )
          ]
        ]

    below : (k j : ℕ) → StoodAt a b k j → k < length xs → j < length xs
    below k j (inl at) under = omega (arith, at.1, a_below)
    below k j (inr (inl at)) under = omega (arith, at.2, b_below)
    below k j (inr (inr at)) under = omega (arith, at.2, under)

    differ : (k m i j : ℕ) → StoodAt a b k i → StoodAt a b m j → k ≢ m → i ≢ j
    differ k m i j (inl p) (inl q) ne e = ne (omega (arith, p.0, q.0))
    differ k m i j (inl p) (inr (inl q)) ne e = ne (omega (arith, p.0, p.1, q.1, q.2, e))
    differ k m i j (inl p) (inr (inr q)) ne e = q.1 (omega (arith, p.1, q.2, e))
    differ k m i j (inr (inl p)) (inl q) ne e = ne (omega (arith, p.1, p.2, q.0, q.1, e))
    differ k m i j (inr (inl p)) (inr (inl q)) ne e = ne (omega (arith, p.1, q.1))
    differ k m i j (inr (inl p)) (inr (inr q)) ne e = q.0 (omega (arith, p.2, q.2, e))
    differ k m i j (inr (inr p)) (inl q) ne e = p.1 (omega (arith, p.2, q.1, e))
    differ k m i j (inr (inr p)) (inr (inl q)) ne e = p.0 (omega (arith, p.2, q.2, e))
    differ k m i j (inr (inr p)) (inr (inr q)) ne e = ne (omega (arith, p.2, q.2, e))

    length-swap : (d : X) → length (swap xs a b) ≡ length xs
    length-swap d = ap length (sym (swap_is xs a b d a_below b_below))
        ∙ length-set (set xs a (get_or xs b d)) b (get_or xs a d) ∙ length-set xs a (get_or xs b d)

    any_two_swapped : AnyTwo xs → AnyTwo (swap xs a b)
    any_two_swapped any = record {
      holds = λ i j d apart under over.
          let one = stood_at i d in
          let other = stood_at j d in
          let long = length-swap d in
          subst (λ x. R x (get_or (swap xs a b) j d)) (sym one.2)
          (subst (R (get_or xs one.0 d)) (sym other.2)
          (any.holds one.0 other.0 d (differ i j one.0 other.0 one.1 other.1 apart)
          (below i one.0 one.1 (omega (arith, under, long))) (below j other.0 other.1 (omega (arith, over, long)))));
    }

  pub any_two_permuted : (xs ys : List X) → IsPermutation xs ys → AllPairs R xs → AnyTwo ys
  any_two_permuted xs ys moved all =
      IsPermutation-keeps xs AnyTwo (any_two xs all) (λ zs i j under below any. any_two_swapped zs i j under below any) ys moved

  pub all_pairs_permuted : (xs ys : List X) → IsPermutation xs ys → AllPairs R xs → AllPairs R ys
  all_pairs_permuted xs ys moved all = λ i j d before below.
      (any_two_permuted xs ys moved all).holds i j d (λ e. omega (arith, e, before)) (omega (arith, before, below)) below
