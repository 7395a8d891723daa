-- What a session writes.
use Rattle.std.specs.Prelude.{◌≡◌, ◌≢◌, ℕ, zero, suc, ◌++◌, Bool, true, false, List, [], ◌∷◌, ◌⊎◌, codes, length}
use Rattle.std.specs.Prelude.{Option, Some, None, Result, Ok, Err, IfSome, slice_index_or, take, refl}
use Rattle.std.specs.Fmt.{digits}
use Rattle.std.specs.Io.KnownBytes.{Appends}
use Rattle.std.proofs.Common.{ap, arith, inl, inr, lit<, suc-ne-zero, sym, true≢false}
use Rattle.ndarray_layout.specs.declared.ErrorKind.{ErrorKind}
use Rattle.ndarray_layout.specs.Acceptance.{acceptance}
use Rattle.ndarray_layout.specs.Run.{Outcome}
use Rattle.ndl_session.specs.Answer.{Reply, answer_of, reply_to_reading, reply_to_run, reply_to_steps, unless, view_of_layout}
use Rattle.ndl_session.specs.script.Script.{ScriptValue, script_of}
use Rattle.ndl_session.specs.text.Bytes.{line_feed}
use Rattle.ndl_session.specs.devices.ReadWrite.{AppendsBeginning}

-- the whole text where a read failed
abbrev pub input_failed_text : List ℕ
input_failed_text = codes "input failed\n"

-- the whole text where an allocation failed
abbrev pub out_of_memory_text : List ℕ
out_of_memory_text = codes "out of memory\n"

-- an input is the known one, where one is known
abbrev pub IsInput : Option (List ℕ) → List ℕ → Type 0
IsInput known_input input = IfSome known_input (λ bytes. input ≡ bytes)

-- a writer's bytes, where they are known, grow by the answer to some input, which has the status
abbrev pub AppendsAnswer : Option (List ℕ) → Option (List ℕ) → Option (List ℕ) → ℕ → Type 0
AppendsAnswer old new known_input status =
    (input : List ℕ) × IsInput known_input input × Appends old new (answer_of input).text × (status ≡ (answer_of input).status)

-- a writer's bytes, where they are known, grow by a beginning that leaves some of it out: of the text where an
-- allocation failed, or of the answer to some input
abbrev pub AppendsAnswerBeginning : Option (List ℕ) → Option (List ℕ) → Option (List ℕ) → Type 0
AppendsAnswerBeginning old new known_input = AppendsBeginning old new out_of_memory_text
    ⊎ ((input : List ℕ) × IsInput known_input input × AppendsBeginning old new (answer_of input).text)

-- what a session writes to a writer, by which bytes its reader has unread and which the writer has before it and after it, each where
-- it is known, and by its status and whether its reader and its writer have failed
pub record WritesText (unread before after : Option (List ℕ)) (status : ℕ) (reader_failed writer_failed : Bool) : Type 0 where
  -- where nothing fails
  pub answered : status ≢ 3 → status ≢ 4 → AppendsAnswer before after unread status
  -- where an allocation fails, and no read or write does
  pub memory : status ≡ 3 → Appends before after out_of_memory_text
  -- where a read fails, and no write does
  pub input : reader_failed ≡ true → writer_failed ≡ false → Appends before after input_failed_text
  -- where a write fails, and no read does
  pub cut : reader_failed ≡ false → writer_failed ≡ true → AppendsAnswerBeginning before after unread
  -- where both fail
  pub input_cut : reader_failed ≡ true → writer_failed ≡ true → AppendsBeginning before after input_failed_text

-- examples
failed_read_ends_its_line : input_failed_text ≡ codes "input failed" ++ line_feed ∷ []
failed_read_ends_its_line = refl

lack_of_memory_ends_its_line : out_of_memory_text ≡ codes "out of memory" ++ line_feed ∷ []
lack_of_memory_ends_its_line = refl

three_bytes_of_lack_of_memory : AppendsAnswerBeginning (Some []) (Some (codes "out")) (Some [])
three_bytes_of_lack_of_memory = inl (3, lit< tt, refl)

six_bytes_of_an_answer : AppendsAnswerBeginning (Some []) (Some (codes "line 1")) (Some [])
unfolding digits
six_bytes_of_an_answer = inr ([], refl, (6, lit< tt, refl))

six_bytes_of_some_answer : AppendsAnswerBeginning (Some []) (Some (codes "line 1")) None
unfolding digits
six_bytes_of_some_answer = inr ([], tt, (6, lit< tt, refl))

whole_answer : AppendsAnswer (Some []) (Some (codes "line 1: unreadable\n")) None 2
unfolding digits
whole_answer = ([], tt, refl, refl)

lost_bytes : AppendsAnswerBeginning (Some []) None (Some []) → ⊥
lost_bytes (inl beginning) = beginning.2
lost_bytes (inr (input, is_input, beginning)) = beginning.2

-- an answer begins with `l`, of `line`, or with `s`, of `step` and `shape`
abbrev first : List ℕ → ℕ
first bytes = slice_index_or bytes 0 0

first_of_run : (fault : Option ErrorKind) (run : Outcome) → first (reply_to_run fault run).text ≡ 115
first_of_run None run = refl
first_of_run (Some kind) run = refl

first_of_fault : (step : ℕ) (fault : Option ErrorKind) (reply : Reply)
    → first reply.text ≡ 115 → first (unless step fault reply).text ≡ 115
first_of_fault step None reply is = is
first_of_fault step (Some kind) reply is = refl

first_of_reading : (reading : Result ScriptValue ℕ) → first (reply_to_reading reading).text ≢ 105
first_of_reading (Ok script) is =
    let layout = script.layout in
    let other = first_of_fault 0 (acceptance 1 layout.len layout.mode layout.shape layout.strides)
    (reply_to_steps script.steps (view_of_layout layout)) (first_of_run _ _) in omega arith
first_of_reading (Err number) is = omega arith

first_of_beginning : (n : ℕ) (text : List ℕ) → codes "in" ≡ take n text → first text ≡ 105
first_of_beginning zero text same = absurd (suc-ne-zero 1 (ap length same))
first_of_beginning (suc n) [] same = absurd (suc-ne-zero 1 (ap length same))
first_of_beginning (suc n) (byte ∷ bytes) same = sym (ap first same)

bytes_of_neither_text : (known_input : Option (List ℕ)) → AppendsAnswerBeginning (Some []) (Some (codes "in")) known_input → ⊥
bytes_of_neither_text known_input (inl (n, small, same)) =
    let other : 111 ≡ 105 = first_of_beginning n out_of_memory_text same in absurd (omega (arith, other))
bytes_of_neither_text known_input (inr (input, is_input, (n, small, same))) =
    first_of_reading (script_of input) (first_of_beginning n (answer_of input).text same)

a_failed_read : WritesText None (Some []) (Some input_failed_text) 4 true false
a_failed_read = record {
  answered = λ not_memory not_failed. absurd (not_failed refl);
  memory = λ is. absurd (suc-ne-zero 0 (omega arith));
  input = λ read written. refl;
  cut = λ read written. absurd (true≢false read);
  input_cut = λ read written. absurd (true≢false (sym written));
}

nothing_after_a_failed_read : WritesText None (Some []) (Some []) 4 true false → ⊥
nothing_after_a_failed_read writes = suc-ne-zero 12 (sym (ap length (writes.input refl refl)))
