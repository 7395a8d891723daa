-- Lists of numbers that lie a step apart.
use Rattle.std.specs.Prelude.{ℕ, ◌+◌, ◌≤◌, ℤ, pos, negsuc, ◌-ℤ◌, ◌≤ℤ◌}
use Rattle.std.specs.Int.{◌∣◌}
use Rattle.std.proofs.lemmas.Nat.Gcd.{dvd_refl, dvd-zero}
use Rattle.nd_base.specs.Signed.{magnitude}

-- one of the numbers first, first + |step|, and so on, up to last
pub record InSequence (first last step number : ℤ) : Type 0 where
  pub not_before : first ≤ℤ number
  pub not_after : number ≤ℤ last
  pub stepped : magnitude step ∣ magnitude (number -ℤ first)

-- some number is in both lists
abbrev pub SequencesIntersect : (ℤ × ℤ × ℤ) → (ℤ × ℤ × ℤ) → Type 0
SequencesIntersect one other = (number : ℤ) × InSequence one.0 one.1 one.2 number × InSequence other.0 other.1 other.2 number

-- some number up to room is a multiple of second_step, and together with ahead a multiple of first_step
abbrev pub IntersectWithin : ℕ → ℕ → ℕ → ℕ → Type 0
IntersectWithin ahead first_step second_step room = (number : ℕ) × (number ≤ room) × (second_step ∣ number) × (first_step ∣ number + ahead)

-- examples
three_then_nine : InSequence (pos 3) (pos 9) (negsuc 5) (pos 9)
three_then_nine = record { not_before = record { le = tt }; not_after = record { le = tt }; stepped = dvd_refl 6 }

nine_in_both : SequencesIntersect (pos 0, pos 9, pos 9) (pos 3, pos 9, negsuc 5)
nine_in_both = (pos 9, record { not_before = record { le = tt }; not_after = record { le = tt }; stepped = dvd_refl 9 }, three_then_nine)

past_the_last : InSequence (pos 3) (pos 3) (pos 6) (pos 9) → ⊥
past_the_last within = within.not_after.le

first_of_its_own : InSequence (pos 0) (pos 0) (pos 9) (pos 0)
first_of_its_own = record { not_before = record { le = tt }; not_after = record { le = tt }; stepped = dvd-zero 9 }

last_before_the_first : SequencesIntersect (pos 0, negsuc 0, pos 9) (negsuc 8, pos 9, pos 9) → ⊥
last_before_the_first (pos n, one, other) = one.not_after.le
last_before_the_first (negsuc n, one, other) = one.not_before.le
