-- What a text that spells a number is made of: a sign and digits, so that no separator cuts it, of a number that fits.
use Rattle.std.proofs.Common.{◌≡◌, ◌≢◌, ℕ, ◌≤◌, ℤ, pos, neg_ℤ, Bool, true, false, cond, List, [], ◌∷◌, drop, Option, Some}
use Rattle.std.proofs.Common.{inl, inr, subst, arith}
use Rattle.std.specs.List.{All}
use Rattle.std.specs.Option.{option_and_then}
use Rattle.std.specs.Str.{all_ascii_digits}
use Rattle.std.specs.Str.Parse.{starts_with_minus}
use Rattle.std.proofs.lemmas.Bool.{and_parts, cases_eq, eq-eqb, ne_eqb}
use Rattle.std.proofs.lemmas.List.Elements.{All-cons, All-nil, All-weaker}
use Rattle.std.proofs.lemmas.Option.{cond_some, option_and_then_some}
use Rattle.std.proofs.lemmas.Str.Parse.{tells_all_ascii_digits}
use Rattle.ndl_session.specs.text.Bytes.{comma, dot, semicolon}
use Rattle.ndl_session.specs.text.Lines.{cut_at}
use Rattle.ndl_session.specs.text.Numbers.{IsIsize, isize_of, number_of, signed_number_of}
use Rattle.ndl_session.proofs.text_lemmas.Cuts.{IsAfter, lacks, one_part}
use Rattle.ndl_session.proofs.text_lemmas.Digits.{isize_fits}

abbrev pub IsSignOrDigit : ℕ → Type 0
IsSignOrDigit byte = (45 ≤ byte) × (byte ≤ 57) × (byte ≢ 46)

pub no_dot : (byte : ℕ) → IsSignOrDigit byte → byte ≢ dot
no_dot byte b = b.2

pub no_semicolon : (byte : ℕ) → IsSignOrDigit byte → byte ≢ semicolon
no_semicolon byte b e = omega (arith, b.1)

pub digit_bytes : (ds : List ℕ) → all_ascii_digits ds ≡ true → All IsSignOrDigit ds
digit_bytes [] e = All-nil IsSignOrDigit
digit_bytes (d ∷ ds) e =
    let both = tells_all_ascii_digits.parts d ds e in
    All-cons IsSignOrDigit d ds (omega (arith, both.0), omega (arith, both.0), λ dot. omega (arith, both.0)) (digit_bytes ds both.1)

pub number_bytes : (text : List ℕ) (n : ℕ) → number_of text ≡ Some n → All IsSignOrDigit text
number_bytes text n some = digit_bytes text (and_parts _ _ (and_parts _ _ (cond_some _ _ _ some).0).0).1

-- ---- with a sign
abbrev with_sign : Bool → List ℕ → List ℕ → Option ℤ
with_sign minus word digits =
    cond minus
    (option_and_then (λ n. isize_of (neg_ℤ (pos n))) (number_of digits))
    (option_and_then (λ n. isize_of (pos n)) (number_of word))

fits : (minus : Bool) (word digits : List ℕ) (z : ℤ) → with_sign minus word digits ≡ Some z → IsIsize z
fits true word digits z some =
    option_and_then_some _ (number_of digits) z some (λ n is read.
    let both = isize_fits (neg_ℤ (pos n)) z read in
    subst IsIsize both.1 both.0)
fits false word digits z some =
    option_and_then_some _ (number_of word) z some (λ n is read.
    let both = isize_fits (pos n) z read in
    subst IsIsize both.1 both.0)

pub signed_number_fits : (text : List ℕ) (z : ℤ) → signed_number_of text ≡ Some z → IsIsize z
signed_number_fits text z some = fits (starts_with_minus text) text (drop 1 text) z some

pub signed_number_bytes : (text : List ℕ) (z : ℤ) → signed_number_of text ≡ Some z → All IsSignOrDigit text
signed_number_bytes [] z some = All-nil IsSignOrDigit
signed_number_bytes (b ∷ bs) z some = elim (cases_eq b 45) [
  | inl minus ↦ option_and_then_some _ (number_of bs) z (rw (eq-eqb b 45 minus) at some) (λ n is read.
      All-cons IsSignOrDigit b bs (omega arith, omega arith, λ dot. omega arith) (number_bytes bs n is))
  | inr none ↦ option_and_then_some _ (number_of (b ∷ bs)) z (rw (ne_eqb b 45 none) at some) (λ n is read. number_bytes (b ∷ bs) n is)
]

pub number_part : (separator : ℕ) → ((byte : ℕ) → IsSignOrDigit byte → byte ≢ separator) → (text : List ℕ) (z : ℤ)
    → signed_number_of text ≡ Some z → cut_at separator text ≡ text ∷ []
number_part separator other text z some =
    one_part separator text (lacks IsSignOrDigit separator other text (signed_number_bytes text z some))

pub after_comma : (text : List ℕ) → All IsSignOrDigit text → All (IsAfter comma) text
after_comma text all = All-weaker IsSignOrDigit (IsAfter comma) (λ b r. omega (arith, r.0)) text all
