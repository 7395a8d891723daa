-- The first line of a text, and what stands after lines.
use Rattle.std.proofs.Common.{◌≡◌, ◌≢◌, ℕ, zero, suc, ◌+◌, ◌-◌, ◌≤◌, true, false, eqb, ap, nat_eq, List, [], ◌∷◌, length, get_or, take}
use Rattle.std.proofs.Common.{drop, drop-cons, drop_of_length-le, Option, Some, None, MatchOption, Bor, refl, sym, ◌∙◌, arith}
use Rattle.std.specs.Cmp.Lexicographic.{pointwise}
use Rattle.std.specs.Option.{unwrap_or}
use Rattle.std.specs.Str.Lines.{strip_carriage_return, lines_of_parts}
use Rattle.std.proofs.Math.Bool.{and-true}
use Rattle.ndl_session.specs.text.Bytes.{line_feed}
use Rattle.ndl_session.specs.text.Lines.{after_line, after_lines, lines_of, lines_from, words_of, cut_at}
use Rattle.ndl_session.proofs.text_lemmas.Parts.{some_part}

-- the text has a line feed
first_part : (line : List ℕ) (cut : List (List ℕ)) → cut ≢ []
    → lines_of_parts (line ∷ cut) ≡ strip_carriage_return line ∷ lines_of_parts cut
first_part line [] some = absurd (some refl)
first_part line (part ∷ more) some = refl

pub ended_line : (text line rest : List ℕ) → cut_at line_feed text ≡ line ∷ cut_at line_feed rest
    → lines_of text ≡ strip_carriage_return line ∷ lines_of rest
ended_line text line rest cut = rw cut (first_part line (cut_at line_feed rest) (some_part line_feed rest))

-- the last byte, as a piece of the text and by its index
last_byte : (line : List ℕ) (at : ℕ) → at + 1 ≡ length line → pointwise nat_eq (drop at line) (13 ∷ []) ≡ eqb (get_or line at 0) 13
last_byte line at e =
    let past : length line ≤ suc at = omega arith in
    let after : drop (suc at) line ≡ [] = drop_of_length-le line past in
    rw (drop-cons line at 0 (omega arith), after) (and-true (eqb (get_or line at 0) 13))

ends_with_return : (line : List ℕ) → pointwise nat_eq (drop (length line - 1) line) (13 ∷ []) ≡ eqb (get_or line (length line - 1) 0) 13
ends_with_return [] = refl
ends_with_return (b ∷ bs) = last_byte (b ∷ bs) (length (b ∷ bs) - 1) (omega arith)

pub stripped : (line : Bor (List ℕ)) (o : Option (Bor (List ℕ))) (P : Bor (List ℕ) → Type 0)
    → MatchOption o (pointwise nat_eq (drop (length line.now - 1) line.now) (13 ∷ []) ≡ false)
    (λ x. (pointwise nat_eq (drop (length line.now - 1) line.now) (13 ∷ []) ≡ true) × (x.now ≡ take (length line.now - 1) line.now) × P
    x) → (unwrap_or o line).now ≡ strip_carriage_return line.now
stripped line None P h = rw (sym (ends_with_return line.now) ∙ h) refl
stripped line (Some x) P h = rw (sym (ends_with_return line.now) ∙ h.0) h.1

-- a blank line
pub blank_line : (number : ℕ) (text line rest : List ℕ) → lines_of text ≡ line ∷ lines_of rest → length (words_of line) ≡ 0
    → lines_from (number + 1) rest ≡ lines_from number text
blank_line number text line rest e blank = sym (rw (e, blank) refl)

-- one line more
after_lines-suc : (count : ℕ) (text : List ℕ) → after_lines (suc count) text ≡ after_line (after_lines count text)
after_lines-suc zero text = refl
after_lines-suc (suc count) text = after_lines-suc count (after_line text)

pub after_lines_next : (number first : ℕ) (text : List ℕ) → first ≤ number
    → after_lines (number + 1 - first) text ≡ after_line (after_lines (number - first) text)
after_lines_next number first text later =
    let count : number + 1 - first ≡ suc (number - first) = omega arith in
    ap (λ lines. after_lines lines text) count ∙ after_lines-suc (number - first) text
