-- A sum that is kept as far as it fits.
use Rattle.std.specs.Prelude.{◌≡◌, ℕ, ◌^◌, Option, Some, None, if◌then◌else◌, nat_lt, refl}

-- the number, where it is at most the greatest `u64`
abbrev pub within_u64 : ℕ → Option ℕ
within_u64 n = if nat_lt n (2 ^ 64) then Some n else None

-- examples
a_small_one : within_u64 5 ≡ Some 5
a_small_one = refl

one_too_many : within_u64 (2 ^ 64) ≡ None
one_too_many = refl
