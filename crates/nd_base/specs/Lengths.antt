-- What the type of a dimension says of its lists: how many lengths.
use Rattle.std.specs.Prelude.{◌≡◌, ℕ, nat_eq, Option, Some, None, refl}
use Rattle.std.proofs.Common.{eq-eqb}
use Rattle.std.proofs.lemmas.Bool.{both_ways}

-- n is a count of axes that the type allows
abbrev pub IsCount : Option ℕ → ℕ → Type 0
IsCount None n = Unit {0}
IsCount (Some k) n = n ≡ k

-- how many lengths the default value has: as many as the type fixes, or one
abbrev pub default_count : Option ℕ → ℕ
default_count None = 1
default_count (Some k) = k

-- examples
any_count : IsCount None 7
any_count = tt

another_count : IsCount (Some 2) 3 → ⊥
another_count count = both_ways (nat_eq 3 2) refl (eq-eqb 3 2 count)

default_of_any_count : default_count None ≡ 1
default_of_any_count = refl

default_of_three : default_count (Some 3) ≡ 3
default_of_three = refl
