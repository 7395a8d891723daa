-- Strides: kept as unsigned numbers of 64 bits, read as the signed numbers of the same bits.
use Rattle.std.specs.Prelude.{◌≡◌, ℕ, ℤ, negsuc, List, map, refl}
use Rattle.std.specs.Int.{w64, cast_signed, cast_unsigned}
use Rattle.std.specs.Int.RustNames.{unsigned_abs}

-- the number from -2^63 to 2^63 - 1 with the same 64 bits
abbrev pub signed : ℕ → ℤ
signed stride = cast_signed w64 stride

-- the number from 0 to 2^64 - 1 with the same 64 bits
abbrev pub unsigned : ℤ → ℕ
unsigned stride = cast_unsigned w64 stride

-- each of them read as signed
abbrev pub all_signed : List ℕ → List ℤ
all_signed strides = map signed strides

-- its distance from 0, which fits also at -2^63
abbrev pub magnitude : ℤ → ℕ
magnitude stride = unsigned_abs stride

-- examples
four_below : signed 18446744073709551612 ≡ negsuc 3
four_below = refl

bits_of_four_below : unsigned (negsuc 3) ≡ 18446744073709551612
bits_of_four_below = refl

least : signed 9223372036854775808 ≡ negsuc 9223372036854775807
least = refl

least_magnitude : magnitude (negsuc 9223372036854775807) ≡ 9223372036854775808
least_magnitude = refl
