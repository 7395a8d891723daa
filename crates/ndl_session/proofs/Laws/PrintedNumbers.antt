-- Laws of numbers: what one prints is read as that number.
use Rattle.std.proofs.Common.{◌≡◌, ◌≢◌, ℕ, suc, ◌<◌, ◌^◌, ℤ, pos, negsuc, true, Option, Some, None, List, get_or, decimal}
use Rattle.std.proofs.Common.{refl, sym, ap, ◌∙◌}
use Rattle.std.proofs.Common.{arith}
use Rattle.std.specs.Fmt.{signed_decimal}
use Rattle.std.proofs.lemmas.Bool.{and_from, lt-ltb, ne_eqb}
use Rattle.std.proofs.lemmas.Fmt.{decimal_nonempty, digits_decimal, digits_value-decimal}
use Rattle.std.proofs.lemmas.Option.{none-some}
use Rattle.std.proofs.lemmas.Str.Parse.{not_in_digits}
use Rattle.ndl_session.specs.text.Numbers.{IsIsize, IsUsize, is_decimal, number_of, signed_number_of}
use Rattle.ndl_session.proofs.text_lemmas.Digits.{isize_of_fitting, own}

is_decimal-decimal : (n : ℕ) → n < 2 ^ 64 → is_decimal (decimal n) ≡ true
is_decimal-decimal n h = and_from _ _ (lt-ltb _ _ (decimal_nonempty n h)) (digits_decimal own n h)

pub number_of-decimal : (n : ℕ) → IsUsize n → number_of (decimal n) ≡ Some n
number_of-decimal n h = rw (is_decimal-decimal n h, digits_value-decimal own n h, lt-ltb n (2 ^ 64) h) refl

no_minus : (n : ℕ) → n < 2 ^ 64 → get_or (decimal n) 0 0 ≢ 45
no_minus n h e = not_in_digits own (decimal n) 45 (digits_decimal own n h) (λ r. omega arith) 0 (decimal_nonempty n h) e

pub signed_number_of-signed_decimal : (z : ℤ) → IsIsize z → signed_number_of (signed_decimal z) ≡ Some z
signed_number_of-signed_decimal (pos n) fits =
    let h : n < 2 ^ 64 = omega (arith, fits.sfits) in
    rw (ne_eqb _ 45 (no_minus n h), number_of-decimal n h) (isize_of_fitting (pos n) fits)
signed_number_of-signed_decimal (negsuc n) fits =
    let h : suc n < 2 ^ 64 = omega (arith, fits.sfits) in
    rw (number_of-decimal (suc n) h) (isize_of_fitting (negsuc n) fits)

-- a text that spells something is no text that spells nothing
pub spells_other : {A : Type 0} (item_of : List ℕ → Option A) (text other : List ℕ) (x : A) → item_of text ≡ Some x
    → item_of other ≡ None → text ≢ other
spells_other item_of text other x some none same = none-some x (sym none ∙ ap item_of (sym same) ∙ some)
