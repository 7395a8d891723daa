-- Sums that are kept as far as they fit a `u64`.
use Rattle.std.proofs.Common.{◌≡◌, ℕ, ◌<◌, ◌≤◌, ◌^◌, Bool, true, false, nat_lt, Some, None}
use Rattle.std.proofs.Common.{ap, refl, subst, sym, arith}
use Rattle.std.specs.Option.{MatchOption}
use Rattle.std.specs.Prelude.{if◌then◌else◌, IfSome, IsSome, Option}
use Rattle.std.proofs.lemmas.Bool.{ltb-true, ltb-false}
use Rattle.nd_loops.specs.Summed.{within_u64}

-- one that is what it should be is kept so, and so is none where that is past a `u64`
pub keeps : (n : ℕ) {total : Option ℕ} → MatchOption total (2 ^ 64 ≤ n) (λ sum. (sum ≡ n) × (n < 2 ^ 64)) → total ≡ within_u64 n
keeps n {total} is = by (nat_lt n (2 ^ 64)) refl total is
  where
    by : (fits : Bool) → nat_lt n (2 ^ 64) ≡ fits → (total : Option ℕ) → MatchOption total (2 ^ 64 ≤ n) (λ sum. (sum ≡ n) × (n < 2 ^ 64))
        → total ≡ (if fits then Some n else None)
    by true small None past = absurd (omega (arith, past, ltb-true n (2 ^ 64) small))
    by true small (Some sum) is = ap Some is.0
    by false large None past = refl
    by false large (Some sum) is = absurd (omega (arith, is.1, ltb-false n (2 ^ 64) large))

-- so there is one where the sum fits, and it is the sum
module _ (n : ℕ) {total : Option ℕ} (is : total ≡ within_u64 n) where
  pub summed_fits : (IsSome total → n < 2 ^ 64) × (n < 2 ^ 64 → IsSome total)
  summed_fits = subst (λ total. (IsSome total → n < 2 ^ 64) × (n < 2 ^ 64 → IsSome total)) (sym is) (by (nat_lt n (2 ^ 64)) refl)
    where
      by : (fits : Bool) → nat_lt n (2 ^ 64) ≡ fits
          → (IsSome (if fits then Some n else None) → n < 2 ^ 64) × (n < 2 ^ 64 → IsSome (if fits then Some n else None))
      by true small = (λ some. ltb-true n (2 ^ 64) small, λ fits. refl)
      by false large = (λ some. absurd (cc), λ fits. absurd (omega (arith, fits, ltb-false n (2 ^ 64) large)))

  pub summed_is : IfSome total (λ sum. sum ≡ n)
  summed_is = subst (λ total. IfSome total (λ sum. sum ≡ n)) (sym is) (by (nat_lt n (2 ^ 64)))
    where
      by : (fits : Bool) → IfSome (if fits then Some n else None) (λ sum. sum ≡ n)
      by true = refl
      by false = tt
