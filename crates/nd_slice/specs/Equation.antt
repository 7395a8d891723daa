-- Equations in whole numbers.
use Rattle.std.specs.Prelude.{◌≡◌, ℕ, ◌+◌, ◌*◌, ◌≤◌, Bool, true, false, refl}
use Rattle.std.specs.Prelude.{ℤ, pos, negsuc, ◌+ℤ◌, ◌*ℤ◌, ◌≤ℤ◌, neg_ℤ}
use Rattle.std.specs.Int.{◌∣◌}

-- the number of that magnitude, negative or not
abbrev pub with_sign_of : ℕ → Bool → ℤ
with_sign_of magnitude true = neg_ℤ (pos magnitude)
with_sign_of magnitude false = pos magnitude

-- some y gives a * x + b * y = c
abbrev pub Solves : ℤ → ℤ → ℤ → ℤ → Type 0
Solves a b c x = (y : ℤ) × ((a *ℤ x) +ℤ (b *ℤ y) ≡ c)

-- the least x that is not negative and solves a * x + b * y = c
pub record IsLeastSolution (a b c x : ℤ) : Type 0 where
  pub non_negative : pos 0 ≤ℤ x
  pub solves : Solves a b c x
  pub least : (other : ℤ) → pos 0 ≤ℤ other → Solves a b c other → x ≤ℤ other

-- the least number whose product with factor, and rest, are together a multiple of modulus
pub record IsLeastMultiplier (factor modulus rest number : ℕ) : Type 0 where
  pub divides : modulus ∣ factor * number + rest
  pub least : (other : ℕ) → modulus ∣ factor * other + rest → number ≤ other

-- what is to be added to the multiple of the magnitude of a to leave one of b, where a * x + b * y = c
abbrev pub added_of : ℤ → ℤ → ℤ
added_of (pos a) c = neg_ℤ c
added_of (negsuc a) c = c

-- examples
five_below : with_sign_of 5 true ≡ negsuc 4
five_below = refl

six_and_nine : Solves (negsuc 5) (pos 9) (pos 3) (pos 1)
six_and_nine = (pos 1, refl)

five : with_sign_of 5 false ≡ pos 5
five = refl

two_solves_too : Solves (pos 4) (negsuc 5) (pos 2) (pos 2)
two_solves_too = (pos 1, refl)

added_for_a_negative : added_of (negsuc 5) (pos 3) ≡ pos 3
added_for_a_negative = refl

added_for_a_positive : added_of (pos 6) (pos 3) ≡ negsuc 2
added_for_a_positive = refl
