-- What `parse` reads, in the words of the grammar, and where a signed number fits.
use Rattle.std.proofs.Common.{◌≡◌, ◌≢◌, ℕ, ◌^◌, ℤ, pos, negsuc, true, false, eqb, ltb, nat_eq, List, [], ◌∷◌}
use Rattle.std.proofs.Common.{get_or, Some, None, Result, Ok, Err, refl, sym, ap, ◌∙◌, arith, Bor, MatchResult}
use Rattle.std.specs.List.{starts_with}
use Rattle.std.specs.Result.{result_ok}
use Rattle.std.specs.Str.{IsUtf8, all_ascii_digits}
use Rattle.std.specs.Str.Parse.{digits_value, ParsesUnsigned}
use Rattle.std.proofs.Math.Bool.{and-true}
use Rattle.std.proofs.lemmas.Bool.{and_parts, and_from, ltb-true, lt-ltb, false_from_ne_true, eqb-false}
use Rattle.std.proofs.lemmas.Fmt.{IsAscii-from_digits}
use Rattle.std.proofs.lemmas.Option.{same_Some, cond_some}
use Rattle.std.proofs.lemmas.Str.{IsUtf8-from_ascii}
use Rattle.std.proofs.lemmas.Str.Parse.{IsNumeralModel, numerals_by_value, tells_all_ascii_digits, parse_plain}
use Rattle.ndl_session.specs.text.Numbers.{IsIsize, is_decimal, isize_of, number_of}

pub own : IsNumeralModel (λ ds. all_ascii_digits ds ≡ true) (digits_value 10)
own = numerals_by_value _ tells_all_ascii_digits

-- ---- a decimal
pub number_parsed : {E : Type 0} (text : List ℕ) (r : Result ℕ E) → ParsesUnsigned 64 10 text r → get_or text 0 0 ≢ 43
    → result_ok r ≡ number_of text
number_parsed {E} text (Ok n) h unsigned =
    let read = parse_plain own {E = E} 64 text (Ok n) h unsigned in
    rw (and_from _ _ (and_from _ _ (lt-ltb _ _ read.0.1) read.0.0) (lt-ltb _ _ read.0.2)) (ap Some read.1)
number_parsed {E} text (Err e) h unsigned =
    let none = parse_plain own {E = E} 64 text (Err e) h unsigned in
    rw (false_from_ne_true _ (λ t.
    let p = and_parts (is_decimal text) _ t in
    let q = and_parts _ _ p.0 in none (q.1, ltb-true _ _ q.0, ltb-true _ _ p.1))) refl

pub number_not_utf8 : (text : List ℕ) → ¬ (IsUtf8 text) → number_of text ≡ None
number_not_utf8 text bad =
    rw (false_from_ne_true (is_decimal text) (λ t.
    bad (IsUtf8-from_ascii text (IsAscii-from_digits text (own.to text (and_parts _ _ t).1))))) refl

pub no_plus : (text : List ℕ) → starts_with nat_eq text (43 ∷ []) ≡ false → get_or text 0 0 ≢ 43
no_plus [] e f = absurd (omega arith)
no_plus (b ∷ bs) e f = eqb-false 43 b (sym (and-true (eqb 43 b)) ∙ e) (sym f)

pub not_a_text : {S E : Type 0} (r : Result S E) (P : S → Type 0) (Q : E → Type 0) (text : List ℕ)
    → MatchResult r P (λ e. ¬ (IsUtf8 text) × Q e) → result_ok r ≡ None → ¬ (IsUtf8 text)
not_a_text (Ok s) P Q text h e = absurd (cc)
not_a_text (Err d) P Q text h e = h.0

pub a_text : {E : Type 0} (r : Result (Bor (List ℕ)) E) (P : Type 0) (Q : E → Type 0) (text : List ℕ) (s : Bor (List ℕ))
    → MatchResult r (λ t. (t.now ≡ text) × P) Q → result_ok r ≡ Some s → s.now ≡ text
a_text (Ok t) P Q text s h e = ap (λ (x : Bor (List ℕ)). x.now) (sym (same_Some t s e)) ∙ h.0
a_text (Err d) P Q text s h e = absurd (cc)

-- ---- a number that fits
pub isize_of_fitting : (z : ℤ) → IsIsize z → isize_of z ≡ Some z
isize_of_fitting (pos n) fits = rw (lt-ltb n (2 ^ 63) fits.sfits) refl
isize_of_fitting (negsuc n) fits = rw (lt-ltb n (2 ^ 63) (omega (arith, fits.sfits))) refl

pub isize_fits : (z y : ℤ) → isize_of z ≡ Some y → IsIsize z × (z ≡ y)
isize_fits (pos n) y some = let both = cond_some _ _ _ some in (record { sfits = ltb-true _ _ both.0 }, both.1)
isize_fits (negsuc n) y some =
    let both = cond_some (ltb n (2 ^ 63)) (negsuc n) y some in (record { sfits = omega (arith, ltb-true n (2 ^ 63) both.0) }, both.1)
