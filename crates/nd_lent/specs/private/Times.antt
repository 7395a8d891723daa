-- A product that is kept as far as it fits.
use Rattle.std.specs.Prelude.{◌≡◌, ℕ, ◌*◌, ◌^◌, nat_eq, Option, Some, None, if◌then◌else◌, refl}
use Rattle.nd_loops.specs.Summed.{within_u64}

-- one more factor: a zero makes it fit again
abbrev pub times : Option ℕ → ℕ → Option ℕ
times None n = if nat_eq n 0 then Some 0 else None
times (Some product) n = within_u64 (product * n)

-- examples
past_the_greatest : times (Some (2 ^ 63)) 2 ≡ None
past_the_greatest = refl

and_zero : times None 0 ≡ Some 0
and_zero = refl
