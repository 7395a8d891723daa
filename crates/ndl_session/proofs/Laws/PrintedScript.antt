-- Laws of lines and scripts: the text of one is read as it.
use Rattle.std.proofs.Common.{◌≡◌, ◌≢◌, ℕ, ◌+◌, ◌-◌, ◌<◌, true, ltb, Some, Ok, Bool, List, [], ◌∷◌, ◌++◌}
use Rattle.std.proofs.Common.{length, get_or, map, codes, refl, ap, ◌∙◌, append_assoc, arith}
use Rattle.std.specs.List.{All, AllByRecursion, enumerate_from, filter, flat_map, list_all}
use Rattle.std.specs.Option.{option_map}
use Rattle.std.specs.Str.Lines.{strip_carriage_return}
use Rattle.std.proofs.lemmas.Bool.{lt-ltb, ne_eqb}
use Rattle.std.proofs.lemmas.List.Elements.{All-cons, All-from_recursion, All-get_or, All-head, All-map, All-tail, All-weaker}
use Rattle.ndarray_layout.specs.declared.CanIndexCheckMode.{CanIndexCheckMode}
use Rattle.ndarray_layout.specs.declared.CanIndexCheckMode.TheVariants.{OwnedMutable, ReadOnly}
use Rattle.ndarray_layout.specs.declared.Fit.{Fit}
use Rattle.ndarray_layout.specs.declared.Fit.TheVariants.{Strict, Clamp}
use Rattle.ndarray_layout.specs.declared.Order.{Order}
use Rattle.ndarray_layout.specs.declared.Order.TheVariants.{RowMajor, ColumnMajor}
use Rattle.ndarray_layout.specs.Step.{StepValue, SliceBy, CollapseTo, MergeInto, ReshapeTo, BroadcastTo}
use Rattle.ndl_session.specs.text.Bytes.{line_feed, space}
use Rattle.ndl_session.specs.text.Lines.{lines_from, lines_of, cut_at, words_of}
use Rattle.ndl_session.specs.text.Printing.{listed}
use Rattle.ndl_session.specs.script.DataLine.{DataLayoutValue, IsLayout, layout_of, layout_words, mode_of, mode_text}
use Rattle.ndl_session.specs.script.Elements.{elements_of, elements_text}
use Rattle.ndl_session.specs.script.Lists.{lengths_text, strides_text}
use Rattle.ndl_session.specs.script.Script.{IsScript, ScriptValue, line_text, script_of, script_text, steps_of_lines}
use Rattle.ndl_session.specs.script.StepLine.{order_of_word, order_text, slice_keyword, step_of, text_of}
use Rattle.ndl_session.proofs.Laws.PrintedLists.{IsWord, elements_items, lengths_items, strides_items, item_word, list_of-listed, list_word}
use Rattle.ndl_session.proofs.Laws.PrintedNumbers.{number_of-decimal}
use Rattle.ndl_session.proofs.text_lemmas.Cuts.{IsAfter, Lacks, lacks, listed_bytes, listed_parts, part_at, spelled}
use Rattle.ndl_session.proofs.text_lemmas.FirstLine.{ended_line}

-- ---- the words of a line
slice_of_keyword : (fit : Fit) (word : List ℕ)
    → step_of (slice_keyword fit ∷ word ∷ []) ≡ option_map (λ elems. SliceBy elems fit) (elements_of word)
slice_of_keyword Strict word = refl
slice_of_keyword Clamp word = refl

order_of-order_text : (order : Order) → order_of_word (order_text order) ≡ Some order
order_of-order_text RowMajor = refl
order_of-order_text ColumnMajor = refl

mode_of-mode_text : (mode : CanIndexCheckMode) → mode_of (mode_text mode) ≡ Some mode
mode_of-mode_text OwnedMutable = refl
mode_of-mode_text ReadOnly = refl

layout_of-layout_words : (layout : DataLayoutValue) → IsLayout layout → layout_of (layout_words layout) ≡ Some layout
layout_of-layout_words layout fits =
    rw (
      number_of-decimal layout.len fits.len,
      mode_of-mode_text layout.mode,
      list_of-listed lengths_items layout.shape fits.shape,
      list_of-listed strides_items layout.strides fits.strides,
    ) refl

-- ---- lines: a word or more
abbrev IsLine : List (List ℕ) → Type 0
IsLine words = (0 < length words) × AllByRecursion IsWord words

words_of_line : (words : List (List ℕ)) → IsLine words → All IsWord words
words_of_line words line = All-from_recursion IsWord words line.1

-- by tests that compute
name : (text : List ℕ) → 0 < length text → list_all (λ b. ltb space b) text ≡ true → IsWord text
name text some e = record { nonempty = some; bytes = spelled space text e }

keyword_word : (fit : Fit) → IsWord (slice_keyword fit)
keyword_word Strict = name (codes "slice") (omega arith) refl
keyword_word Clamp = name (codes "clamp") (omega arith) refl

order_word : (order : Order) → IsWord (order_text order)
order_word RowMajor = name (codes "C") (omega arith) refl
order_word ColumnMajor = name (codes "F") (omega arith) refl

mode_word : (mode : CanIndexCheckMode) → IsWord (mode_text mode)
mode_word OwnedMutable = name (codes "owned") (omega arith) refl
mode_word ReadOnly = name (codes "read") (omega arith) refl

-- the words of a step are those of a line, which is read as the step
record IsReadBack (step : StepValue) : Type 0 where
  line : IsLine (text_of step).words
  read : step_of (text_of step).words ≡ Some step

read_back : (step : StepValue) → (text_of step).fits → IsReadBack step
read_back (SliceBy elems fit) fits = record {
  line = (omega arith, (keyword_word fit, (list_word elements_items elems fits, tt)));
  read = slice_of_keyword fit (elements_text elems) ∙ ap (option_map (λ e. SliceBy e fit)) (list_of-listed elements_items elems fits);
}
read_back (CollapseTo axis index) fits = record {
  line = (
    omega arith,
    (name (codes "collapse") (omega arith) refl, (item_word lengths_items axis fits.0, (item_word lengths_items index fits.1, tt))),
  );
  read = rw (number_of-decimal axis fits.0, number_of-decimal index fits.1) refl;
}
read_back (MergeInto take into) fits = record {
  line = (
    omega arith,
    (name (codes "merge") (omega arith) refl, (item_word lengths_items take fits.0, (item_word lengths_items into fits.1, tt))),
  );
  read = rw (number_of-decimal take fits.0, number_of-decimal into fits.1) refl;
}
read_back (ReshapeTo shape order) fits = record {
  line = (omega arith, (name (codes "reshape") (omega arith) refl, (order_word order, (list_word lengths_items shape fits, tt))));
  read = rw (order_of-order_text order, list_of-listed lengths_items shape fits) refl;
}
read_back (BroadcastTo shape) fits = record {
  line = (omega arith, (name (codes "broadcast") (omega arith) refl, (list_word lengths_items shape fits, tt)));
  read = rw (list_of-listed lengths_items shape fits) refl;
}

layout_line : (layout : DataLayoutValue) → IsLayout layout → IsLine (layout_words layout)
layout_line layout fits =
    let lists : AllByRecursion IsWord (lengths_text layout.shape ∷ strides_text layout.strides ∷ []) =
    (list_word lengths_items layout.shape fits.shape, (list_word strides_items layout.strides fits.strides, tt)) in (
      omega arith,
      (name (codes "data") (omega arith) refl, (item_word lengths_items layout.len fits.len, (mode_word layout.mode, lists))),
    )

-- ---- the words of a line are read as they are
filter_all : {A : Type 0} (p : A → Bool) (xs : List A) → All (λ x. p x ≡ true) xs → filter p xs ≡ xs
filter_all p [] all = refl
filter_all p (x ∷ xs) all = rw (All-head (λ y. p y ≡ true) x xs all, filter_all p xs (All-tail (λ y. p y ≡ true) x xs all)) refl

words_of-line : (words : List (List ℕ)) → IsLine words → words_of (listed (codes " ") words) ≡ words
words_of-line [] line = absurd (omega (arith, line.0))
words_of-line (word ∷ words) line =
    let each = words_of_line (word ∷ words) line in
    let apart =
    All-weaker IsWord (Lacks space) (λ w h. lacks (IsAfter space) space (λ b r e. omega (arith, r)) w h.bytes) (word ∷ words) each in
    rw (listed_parts space word words apart)
    (filter_all (λ w. ltb 0 (length w)) (word ∷ words)
    (All-weaker IsWord (λ w. ltb 0 (length w) ≡ true) (λ w h. lt-ltb 0 (length w) h.nonempty) (word ∷ words) each))

-- ---- the lines of a text are read as they are
line_bytes : (words : List (List ℕ)) → IsLine words → All (IsAfter 31) (listed (codes " ") words)
line_bytes words line =
    listed_bytes (IsAfter 31) 32 (omega arith) (omega arith) words
    (All-weaker IsWord (All (IsAfter 31)) (λ w h. All-weaker (IsAfter space) (IsAfter 31) (λ b r. omega (arith, r)) w h.bytes) words
    (words_of_line words line))

no_return : (text : List ℕ) → All (IsAfter 31) text → get_or text (length text - 1) 0 ≢ 13
no_return [] all e = omega (arith, e)
no_return (b ∷ bs) all e =
    let last = All-get_or (IsAfter 31) (b ∷ bs) (length (b ∷ bs) - 1) 0 (omega arith) all in
    omega (arith, e, last)

kept_line : (text : List ℕ) → All (IsAfter 31) text → strip_carriage_return text ≡ text
kept_line text all = rw (ne_eqb _ 13 (no_return text all)) refl

lines_of-lines : (lines : List (List (List ℕ))) → All IsLine lines → lines_of (flat_map line_text lines) ≡ map (listed (codes " ")) lines
lines_of-lines [] all = refl
lines_of-lines (words ∷ lines) all =
    let line = listed (codes " ") words in
    let rest = flat_map line_text lines in
    let bytes = line_bytes words (All-head IsLine words lines all) in
    let whole : line_text words ++ rest ≡ line ++ line_feed ∷ rest = append_assoc line (codes "\n") rest in
    let cut : cut_at line_feed (line_text words ++ rest) ≡ line ∷ cut_at line_feed rest = ap (cut_at line_feed) whole
    ∙ part_at line_feed line rest (lacks (IsAfter 31) line_feed (λ b r e. omega (arith, r)) line bytes) in
    ended_line (line_text words ++ rest) line rest cut
    ∙ rw (kept_line line bytes, lines_of-lines lines (All-tail IsLine words lines all)) refl

words_of-lines : (lines : List (List (List ℕ))) → All IsLine lines → map words_of (map (listed (codes " ")) lines) ≡ lines
words_of-lines [] all = refl
words_of-lines (words ∷ lines) all =
    rw (words_of-line words (All-head IsLine words lines all), words_of-lines lines (All-tail IsLine words lines all)) refl

not_blank : (number : ℕ) (lines : List (List (List ℕ))) → All IsLine lines
    → filter (λ line. ltb 0 (length line.1)) (enumerate_from number lines) ≡ enumerate_from number lines
not_blank number [] all = refl
not_blank number (words ∷ lines) all =
    rw (lt-ltb 0 (length words) (All-head IsLine words lines all).0, not_blank (number + 1) lines (All-tail IsLine words lines all)) refl

lines_from-lines : (number : ℕ) (lines : List (List (List ℕ))) → All IsLine lines
    → lines_from number (flat_map line_text lines) ≡ enumerate_from number lines
lines_from-lines number lines all = rw (lines_of-lines lines all, words_of-lines lines all) (not_blank number lines all)

-- ---- the script
abbrev Fits : StepValue → Type 0
Fits step = (text_of step).fits

abbrev words : StepValue → List (List ℕ)
words step = (text_of step).words

steps_of-steps : (number : ℕ) (steps : List StepValue) → All Fits steps
    → steps_of_lines (enumerate_from number (map words steps)) ≡ Ok steps
steps_of-steps number [] all = refl
steps_of-steps number (step ∷ steps) all =
    rw ((read_back step (All-head Fits step steps all)).read, steps_of-steps (number + 1) steps (All-tail Fits step steps all)) refl

pub script_of-script_text : (script : ScriptValue) → IsScript script → script_of (script_text script) ≡ Ok script
script_of-script_text script fits =
    let lines = layout_words script.layout ∷ map words script.steps in
    let all : All IsLine lines =
    All-cons IsLine (layout_words script.layout) _ (layout_line script.layout fits.layout)
    (All-map IsLine words script.steps (All-weaker Fits (λ s. IsLine (words s)) (λ s f. (read_back s f).line) script.steps fits.steps)) in
    rw (lines_from-lines 1 lines all, layout_of-layout_words script.layout fits.layout, steps_of-steps 2 script.steps fits.steps) refl
