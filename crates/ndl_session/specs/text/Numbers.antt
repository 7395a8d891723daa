-- The numbers that words spell.
use Rattle.std.specs.Prelude.{◌≡◌, ℕ, ◌<◌, ◌^◌, ℤ, pos, negsuc, neg_ℤ, Bool, true, false, ◌&&◌, nat_lt, if◌then◌else◌}
use Rattle.std.specs.Prelude.{Option, Some, None, List, [], length, drop, codes, refl}
use Rattle.std.specs.Int.{w64}
use Rattle.std.specs.Int.RustNames.{FitsSigned}
use Rattle.std.specs.Option.{option_and_then}
use Rattle.std.specs.Str.{all_ascii_digits}
use Rattle.std.specs.Str.Parse.{digits_value, starts_with_minus}

-- a word is one digit or more, and nothing else
abbrev pub is_decimal : List ℕ → Bool
is_decimal word = nat_lt 0 (length word) && all_ascii_digits word

-- the number of a word that is a decimal, where it fits 64 bits
abbrev pub number_of : List ℕ → Option ℕ
number_of word = if is_decimal word && nat_lt (digits_value 10 word) (2 ^ 64) then Some (digits_value 10 word) else None

-- a number where an `isize` can be it
abbrev pub isize_of : ℤ → Option ℤ
isize_of (pos n) = if nat_lt n (2 ^ 63) then Some (pos n) else None
isize_of (negsuc n) = if nat_lt n (2 ^ 63) then Some (negsuc n) else None

-- the number with a sign of a word: of a decimal, or of `-` and a decimal its negative, where an `isize` can be it
abbrev pub signed_number_of : List ℕ → Option ℤ
signed_number_of word =
    if starts_with_minus word then option_and_then (λ n. isize_of (neg_ℤ (pos n))) (number_of (drop 1 word))
    else option_and_then (λ n. isize_of (pos n)) (number_of word)

-- a number that a `usize` can be
abbrev pub IsUsize : ℕ → Type 0
IsUsize number = number < 2 ^ 64

-- a number that an `isize` can be
abbrev pub IsIsize : ℤ → Type 0
IsIsize number = FitsSigned w64 number

-- examples
two_digits : is_decimal (codes "07") ≡ true
two_digits = refl

digit_and_letter : is_decimal (codes "7a") ≡ false
digit_and_letter = refl

leading_zeros : number_of (codes "004") ≡ Some 4
leading_zeros = refl

greatest : number_of (codes "18446744073709551615") ≡ Some 18446744073709551615
greatest = refl

past_greatest : number_of (codes "18446744073709551616") ≡ None
past_greatest = refl

no_plus : number_of (codes "+4") ≡ None
no_plus = refl

no_digit : number_of [] ≡ None
no_digit = refl

least_signed : signed_number_of (codes "-9223372036854775808") ≡ Some (negsuc 9223372036854775807)
least_signed = refl

past_least_signed : signed_number_of (codes "-9223372036854775809") ≡ None
past_least_signed = refl

past_greatest_signed : signed_number_of (codes "9223372036854775808") ≡ None
past_greatest_signed = refl

greatest_isize : isize_of (pos 9223372036854775807) ≡ Some (pos 9223372036854775807)
greatest_isize = refl

past_greatest_isize : isize_of (pos 9223372036854775808) ≡ None
past_greatest_isize = refl

minus_seven : signed_number_of (codes "-07") ≡ Some (negsuc 6)
minus_seven = refl

past_usize : signed_number_of (codes "-18446744073709551616") ≡ None
past_usize = refl

negative_zero : signed_number_of (codes "-0") ≡ Some (pos 0)
negative_zero = refl

minus_alone : signed_number_of (codes "-") ≡ None
minus_alone = refl

two_signs : signed_number_of (codes "--1") ≡ None
two_signs = refl
