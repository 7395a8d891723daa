-- Items whose positions are multiples of a step, as a pass that leaves out the items between them.
use Rattle.std.proofs.Common.{◌≡◌, ℕ, zero, suc, ◌+◌, ◌-◌, ◌*◌, ◌/◌, ◌%◌, ◌<◌, ◌≤◌, true, false, eqb, map, filter, List, [], ◌∷◌, length}
use Rattle.std.proofs.Common.{refl, ap, subst, arith, eq-eqb, ne_eqb, div-add-mod', inl, inr, mul-le-mul_right}
use Rattle.std.proofs.Math.Nat.{mod-zero, mul-mod_left}
use Rattle.std.proofs.lemmas.Bool.{cases_lt}
use Rattle.std.specs.List.{enumerate_from}
use Rattle.nd_slice.proofs.Definitions.{every}

-- the items that lie step apart, after so many to pass over
abbrev pub every_after : ℕ → ℕ → List ℕ → List ℕ
every_after step skip [] = []
every_after step zero (item ∷ items) = item ∷ every_after step (step - 1) items
every_after step (suc skip) (item ∷ items) = every_after step skip items

-- so many items on is a multiple of the step: then this one is none, where they are fewer than the step
not_multiple : (k a s q : ℕ) → 0 < s → s < k → a + s ≡ q * k → eqb (a % k) 0 ≡ false
not_multiple k a s q more less e = ne_eqb (a % k) 0 (λ z.
    let whole : a / k * k + a % k ≡ a = div-add-mod' a k in
    elim (cases_lt (a / k) q) [
      | inl below ↦ absurd (omega (arith, mul-le-mul_right k below))
      | inr above ↦ absurd (omega (arith, mul-le-mul_right k above))
    ])

every_from : (k a s q : ℕ) (xs : List ℕ) → s < k → a + s ≡ q * k
    → map (λ item. item.1) (filter (λ item. eqb (item.0 % k) 0) (enumerate_from a xs)) ≡ every_after k s xs
every_from k a s q [] p e = refl
every_from k a zero q (x ∷ xs) p e =
    let multiple : eqb (a % k) 0 ≡ true = eq-eqb (a % k) 0 (subst (λ n. n % k ≡ 0) (omega arith) (mul-mod_left q k)) in
    rw multiple (ap (λ ys. x ∷ ys) (every_from k (a + 1) (k - 1) (q + 1) xs (omega arith) (omega arith)))
every_from k a (suc s) q (x ∷ xs) p e =
    rw (not_multiple k a (suc s) q (omega arith) p e) (every_from k (a + 1) s q xs (omega arith) (omega arith))

pub every_is : (k : ℕ) (xs : List ℕ) → 0 < k → every k xs ≡ every_after k 0 xs
every_is k xs p = every_from k 0 0 0 xs p (omega arith)

-- a step of 0 keeps no more than the first item
none_from : (a : ℕ) (xs : List ℕ) → 0 < a → filter (λ item. eqb (item.0 % 0) 0) (enumerate_from a xs) ≡ []
none_from a [] p = refl
none_from a (x ∷ xs) p = rw (ne_eqb (a % 0) 0 (λ z. omega (arith, mod-zero a, z))) (none_from (a + 1) xs (omega arith))

pub one_of_zero : (xs : List ℕ) → length (every 0 xs) ≤ 1
one_of_zero [] = omega arith
one_of_zero (x ∷ xs) = omega (arith, ap (λ items. length (map (λ item. item.1) items)) (none_from 1 xs (omega arith)))
