-- The first of the numbers below a count that passes a test, from one of them on.
use Rattle.std.proofs.Common.{◌≡◌, ℕ, suc, ◌+◌, ◌-◌, ◌<◌, Bool, true, false, cond, Option, Some, ◌∷◌, sym, ap, ◌∙◌, arith}
use Rattle.std.specs.List.{find, range_with_len}

range_step : (k count : ℕ) → k < count → range_with_len k (count - k) ≡ k ∷ range_with_len (k + 1) (count - (k + 1))
range_step k count below =
    let more : count - k ≡ suc (count - (k + 1)) = omega arith in
    ap (range_with_len k) more

module _ (p : ℕ → Bool) (k count : ℕ) where
  from_here : k < count → find p (range_with_len k (count - k)) ≡ cond (p k) (Some k) (find p (range_with_len (k + 1) (count - (k + 1))))
  from_here below = ap (find p) (range_step k count below)

  -- where this one passes, it is the first
  pub first_found : {all : Option ℕ} → k < count → p k ≡ true → find p (range_with_len k (count - k)) ≡ all → Some k ≡ all
  first_found below here known =
      sym (ap (λ passes. cond passes (Some k) (find p (range_with_len (k + 1) (count - (k + 1))))) here)
      ∙ sym (from_here below) ∙ known

  -- where it doesn't, the first is among the others
  pub first_passed : {all : Option ℕ} → k < count → p k ≡ false → find p (range_with_len k (count - k)) ≡ all
      → find p (range_with_len (k + 1) (count - (k + 1))) ≡ all
  first_passed below here known =
      sym (ap (λ passes. cond passes (Some k) (find p (range_with_len (k + 1) (count - (k + 1))))) here)
      ∙ sym (from_here below) ∙ known
