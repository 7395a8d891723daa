-- Laws of elements: what one prints is read as that element, and has no comma.
use Rattle.std.proofs.Common.{◌≡◌, ℕ, zero, suc, ℤ, pos, negsuc, false, eqb, Option, Some, None, List, [], ◌∷◌, ◌++◌, codes, refl, sym}
use Rattle.std.proofs.Common.{ap, subst, ◌∙◌, append_assoc, arith}
use Rattle.std.specs.Fmt.{signed_decimal}
use Rattle.std.specs.List.{All}
use Rattle.std.specs.Option.{option_map, IfSome}
use Rattle.std.specs.Str.{bytes_eq}
use Rattle.std.proofs.lemmas.Bool.{false_from_ne_true, ne_eqb}
use Rattle.std.proofs.lemmas.List.{append-nil}
use Rattle.std.proofs.lemmas.List.Elements.{All-append, All-cons, All-nil, All-weaker}
use Rattle.std.proofs.lemmas.Option.{none-some}
use Rattle.std.proofs.lemmas.Slice.Eq.{bytes_eq-Decides}
use Rattle.ndarray_layout.specs.ElementText.{elem_text}
use Rattle.ndarray_layout.specs.SliceText.{start_text, end_text, step_text}
use Rattle.ndarray_layout.specs.declared.SliceInfoElem.{SliceInfoElem}
use Rattle.ndarray_layout.specs.declared.SliceInfoElem.TheVariants as elem
use Rattle.ndl_session.specs.text.Bytes.{comma, dot, semicolon}
use Rattle.ndl_session.specs.text.Lines.{cut_at}
use Rattle.ndl_session.specs.text.Numbers.{IsIsize, signed_number_of}
use Rattle.ndl_session.specs.script.Elements.{IsElement, start_of, end_of, element_of, range_of, slice_of_bounds}
use Rattle.ndl_session.proofs.Laws.PrintedNumbers.{signed_number_of-signed_decimal, spells_other}
use Rattle.ndl_session.proofs.text_lemmas.Cuts.{IsAfter, Lacks, lacks, one_part, part_at, spelled}
use Rattle.ndl_session.proofs.text_lemmas.NumberParts.{IsSignOrDigit, after_comma, no_dot, no_semicolon, number_part, signed_number_bytes}
use Rattle.ndl_session.proofs.text_lemmas.Parts.{some_part}

-- ---- bounds
number_bytes : (z : ℤ) → IsIsize z → All IsSignOrDigit (signed_decimal z)
number_bytes z fits = signed_number_bytes (signed_decimal z) z (signed_number_of-signed_decimal z fits)

start_bytes : (start : ℤ) → IsIsize start → All IsSignOrDigit (start_text start)
start_bytes (pos zero) fits = All-nil IsSignOrDigit
start_bytes (pos (suc n)) fits = number_bytes (pos (suc n)) fits
start_bytes (negsuc n) fits = number_bytes (negsuc n) fits

end_bytes : (end : Option ℤ) → IfSome end IsIsize → All IsSignOrDigit (end_text end)
end_bytes None fits = All-nil IsSignOrDigit
end_bytes (Some end) fits = number_bytes end fits

start_of_number : (text : List ℕ) (z : ℤ) → signed_number_of text ≡ Some z → start_of text ≡ Some z
start_of_number [] z some = absurd (none-some z some)
start_of_number (b ∷ bs) z some = some

end_of_number : (text : List ℕ) (z : ℤ) → signed_number_of text ≡ Some z → end_of text ≡ Some (Some z)
end_of_number [] z some = absurd (none-some z some)
end_of_number (b ∷ bs) z some = ap (option_map Some) some

start_of-start_text : (start : ℤ) → IsIsize start → start_of (start_text start) ≡ Some start
start_of-start_text (pos zero) fits = refl
start_of-start_text (pos (suc n)) fits =
    start_of_number (signed_decimal (pos (suc n))) _ (signed_number_of-signed_decimal (pos (suc n)) fits)
start_of-start_text (negsuc n) fits = start_of_number (signed_decimal (negsuc n)) _ (signed_number_of-signed_decimal (negsuc n) fits)

end_of-end_text : (end : Option ℤ) → IfSome end IsIsize → end_of (end_text end) ≡ Some end
end_of-end_text None fits = refl
end_of-end_text (Some end) fits = end_of_number (signed_decimal end) end (signed_number_of-signed_decimal end fits)

-- ---- a range: two bounds with two dots between them
abbrev bounds_text : ℤ → Option ℤ → List ℕ
bounds_text start end = start_text start ++ codes ".." ++ end_text end

module _ (start : ℤ) (end : Option ℤ) (s : IsIsize start) (e : IfSome end IsIsize) where
  two_dots_between : bounds_text start end ≡ start_text start ++ dot ∷ dot ∷ end_text end
  two_dots_between = append_assoc (start_text start) (codes "..") (end_text end)

  -- of bytes that those of numbers and a dot are
  bounds_all : (P : ℕ → Type 0) → P dot → ((byte : ℕ) → IsSignOrDigit byte → P byte) → All P (bounds_text start end)
  bounds_all P of_dot of_number =
      subst (All P) (sym two_dots_between) (All-append P (start_text start) (dot ∷ dot ∷ end_text end)
      (All-weaker IsSignOrDigit P of_number _ (start_bytes start s))
      (All-cons P dot (dot ∷ end_text end) of_dot (All-cons P dot (end_text end) of_dot
      (All-weaker IsSignOrDigit P of_number _ (end_bytes end e)))))

  no_dot_before : Lacks dot (start_text start)
  no_dot_before = lacks IsSignOrDigit dot no_dot _ (start_bytes start s)

  bounds_parts : cut_at dot (bounds_text start end) ≡ start_text start ∷ [] ∷ end_text end ∷ []
  bounds_parts =
      ap (cut_at dot) two_dots_between
      ∙ part_at dot (start_text start) (dot ∷ end_text end) no_dot_before
      ∙ ap (λ (cut : List (List ℕ)). start_text start ∷ [] ∷ cut) (one_part dot (end_text end)
      (lacks IsSignOrDigit dot no_dot _ (end_bytes end e)))

  slice_of-bounds_text : (step : ℤ) → slice_of_bounds step (cut_at dot (bounds_text start end)) ≡ Some (elem.Slice start end step)
  slice_of-bounds_text step = rw (bounds_parts, start_of-start_text start s, end_of-end_text end e) refl

  bounds_no_semicolon : Lacks semicolon (bounds_text start end)
  bounds_no_semicolon = bounds_all (λ b. eqb b semicolon ≡ false) refl (λ b r. ne_eqb b semicolon (no_semicolon b r))

  -- the step after them, if it is written
  with_step : (step : ℤ) → IsIsize step
      → range_of (bounds_text start end ++ semicolon ∷ signed_decimal step) ≡ Some (elem.Slice start end step)
  with_step step t =
      rw (
        part_at semicolon (bounds_text start end) (signed_decimal step) bounds_no_semicolon,
        number_part semicolon no_semicolon (signed_decimal step) step (signed_number_of-signed_decimal step t),
        signed_number_of-signed_decimal step t,
      ) (slice_of-bounds_text step)

  range_of-elem_text : (step : ℤ) → IsIsize step → range_of (bounds_text start end ++ step_text step) ≡ Some (elem.Slice start end step)
  range_of-elem_text (pos zero) t = with_step (pos 0) t
  range_of-elem_text (pos (suc zero)) t =
      rw (append-nil (bounds_text start end), one_part semicolon (bounds_text start end) bounds_no_semicolon) (slice_of-bounds_text (pos 1))
  range_of-elem_text (pos (suc (suc n))) t = with_step (pos (suc (suc n))) t
  range_of-elem_text (negsuc n) t = with_step (negsuc n) t

-- ---- one element
step_written : (step : ℤ) → IsIsize step → All (IsAfter comma) (semicolon ∷ signed_decimal step)
step_written step fits = All-cons (IsAfter comma) semicolon _ (omega arith) (after_comma _ (number_bytes step fits))

step_bytes : (step : ℤ) → IsIsize step → All (IsAfter comma) (step_text step)
step_bytes (pos zero) fits = step_written (pos 0) fits
step_bytes (pos (suc zero)) fits = All-nil (IsAfter comma)
step_bytes (pos (suc (suc n))) fits = step_written (pos (suc (suc n))) fits
step_bytes (negsuc n) fits = step_written (negsuc n) fits

pub elem_bytes : (e : SliceInfoElem) → IsElement e → All (IsAfter comma) (elem_text e)
elem_bytes (elem.Slice start end step) (s, e, t) =
    All-append (IsAfter comma) (bounds_text start end) (step_text step)
    (bounds_all start end s e (IsAfter comma) (omega arith) (λ b r. omega (arith, r.0))) (step_bytes step t)
elem_bytes (elem.Index index) fits = after_comma _ (number_bytes index fits)
elem_bytes elem.NewAxis fits = spelled comma (codes "NewAxis") refl

not_new_axis : {A : Type 0} (item_of : List ℕ → Option A) (text : List ℕ) (x : A) → item_of text ≡ Some x → item_of (codes "NewAxis") ≡ None
    → bytes_eq text (codes "NewAxis") ≡ false
not_new_axis item_of text x some none =
    false_from_ne_true _ (λ t. spells_other item_of text (codes "NewAxis") x some none ((bytes_eq-Decides _ _).0 t))

abbrev tail_of : List (List ℕ) → List (List ℕ)
tail_of [] = []
tail_of (text ∷ texts) = texts

none_unless : {A : Type 0} (o : Option A) → ((x : A) → o ≡ Some x → ⊥) → o ≡ None
none_unless None never = refl
none_unless (Some x) never = absurd (never x refl)

-- a text with a dot is no number
not_number : (before after : List ℕ) → Lacks dot before → signed_number_of (before ++ dot ∷ after) ≡ None
not_number before after apart = none_unless _ (λ z some.
    some_part dot after (ap tail_of (sym (part_at dot before after apart) ∙ number_part dot no_dot (before ++ dot ∷ after) z some)))

range_not_number : (start : ℤ) (end : Option ℤ) (step : ℤ) → IsElement (elem.Slice start end step)
    → signed_number_of (bounds_text start end ++ step_text step) ≡ None
range_not_number start end step (s, e, t) =
    ap signed_number_of (ap (λ (text : List ℕ). text ++ step_text step) (two_dots_between start end s e)
    ∙ append_assoc (start_text start) (dot ∷ dot ∷ end_text end) (step_text step))
    ∙ not_number (start_text start) (dot ∷ end_text end ++ step_text step) (no_dot_before start end s e)

pub element_of-elem_text : (e : SliceInfoElem) → IsElement e → element_of (elem_text e) ≡ Some e
element_of-elem_text (elem.Slice start end step) (s, e, t) =
    let read = range_of-elem_text start end s e step t in
    rw (not_new_axis range_of _ _ read refl, range_not_number start end step (s, e, t)) read
element_of-elem_text (elem.Index index) fits =
    let read = signed_number_of-signed_decimal index fits in rw (not_new_axis signed_number_of _ _ read refl, read) refl
element_of-elem_text elem.NewAxis fits = refl
