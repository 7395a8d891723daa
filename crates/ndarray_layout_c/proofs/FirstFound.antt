-- What is known of the first number below a count that passes a test.
use Rattle.std.proofs.Common.{◌≡◌, ℕ, zero, suc, ◌+◌, ◌<◌, ◌≤◌, Bool, true, false, cond, Option, Some, None, refl, ap, ◌∙◌, inl, inr, arith}
use Rattle.std.proofs.lemmas.Bool.{cases_eq}
use Rattle.std.specs.List.{find, range_with_len}

module _ (p : ℕ → Bool) where
  -- of so many numbers from one on, the one that is found passes, and where none is found, none does
  abbrev FoundFrom : ℕ → ℕ → Option ℕ → Type 0
  FoundFrom first count None = (k : ℕ) → first ≤ k → k < first + count → p k ≡ false
  FoundFrom first count (Some k) = (k < first + count) × (p k ≡ true)

  from_next : (first count : ℕ) (found : Option ℕ) → p first ≡ false → FoundFrom (first + 1) count found
      → FoundFrom first (suc count) found
  from_next first count None fails rest = λ k from below.
      elim (cases_eq k first) [
        | inl same ↦ ap p same ∙ fails
        | inr other ↦ rest k (omega (arith, from, other)) (omega (arith, below))
      ]
  from_next first count (Some k) fails rest = (omega (arith, rest.0), rest.1)

  found_from : (first count : ℕ) → FoundFrom first count (find p (range_with_len first count))
  found_from first zero = λ k from below. absurd (omega (arith, from, below))
  found_from first (suc count) = by (p first) refl (found_from (first + 1) count)
    where
      by : (passes : Bool) → p first ≡ passes → FoundFrom (first + 1) count (find p (range_with_len (first + 1) count))
          → FoundFrom first (suc count) (cond passes (Some first) (find p (range_with_len (first + 1) count)))
      by true here rest = (omega arith, here)
      by false here rest = from_next first count (find p (range_with_len (first + 1) count)) here rest

  -- of the numbers below a count
  abbrev pub Found : ℕ → Option ℕ → Type 0
  Found count None = (k : ℕ) → k < count → p k ≡ false
  Found count (Some k) = (k < count) × (p k ≡ true)

  pub found : (count : ℕ) → Found count (find p (range_with_len 0 count))
  found count = from_0 (find p (range_with_len 0 count)) (found_from 0 count)
    where
      from_0 : (one : Option ℕ) → FoundFrom 0 count one → Found count one
      from_0 None none = λ k below. none k (omega arith) (omega (arith, below))
      from_0 (Some k) some = (omega (arith, some.0), some.1)
