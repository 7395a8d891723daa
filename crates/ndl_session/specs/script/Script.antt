-- The script that an input spells, or the number of its first unreadable line; and the text of a script.
use Rattle.std.specs.Prelude.{◌≡◌, ℕ, ◌+◌, pos, negsuc, Option, None, Result, Ok, Err, is_ok, List, [], ◌∷◌, ◌++◌, map, codes, refl}
use Rattle.std.specs.Fmt.{digits}
use Rattle.std.specs.List.{All, flat_map}
use Rattle.std.specs.Option.{ok_or}
use Rattle.std.proofs.Common.{ap}
use Rattle.std.proofs.lemmas.Bool.{false≢true}
use Rattle.ndarray_layout.specs.declared.CanIndexCheckMode.TheVariants.{OwnedMutable}
use Rattle.ndarray_layout.specs.declared.Fit.TheVariants.{Strict, Clamp}
use Rattle.ndarray_layout.specs.declared.SliceInfoElem.TheVariants as elem
use Rattle.ndarray_layout.specs.Step.{StepValue, SliceBy, step_value}
use Rattle.ndl_session.specs.declared.script.Script.{Script}
use Rattle.ndl_session.specs.declared.script.ReadError.{ReadError}
use Rattle.ndl_session.specs.declared.script.ReadError.TheVariants as script
use Rattle.ndl_session.specs.script.Reading.{both}
use Rattle.ndl_session.specs.text.Lines.{NumberedLine, lines_from}
use Rattle.ndl_session.specs.text.Printing.{listed}
use Rattle.ndl_session.specs.script.DataLine.{IsLayout, DataLayoutValue, layout_value, layout_of, layout_words}
use Rattle.ndl_session.specs.script.StepLine.{step_of, text_of}

-- what a script says: a layout, and the steps to take from it, in order
pub record ScriptValue : Type 0 where
  pub layout : DataLayoutValue
  pub steps : List StepValue

-- a script of the program by what its lists hold
abbrev pub script_value : Script → ScriptValue
script_value s = record { layout = layout_value s.layout; steps = map step_value s.steps.items }

-- an error of a reader is the one of a reading, the number of the first unreadable line; out of memory it may be in any case
abbrev pub IsFirstUnreadable : {Y : Type 0} → ReadError → Result Y ℕ → Type 0
IsFirstUnreadable (script.Unreadable line) reading = reading ≡ Err line
IsFirstUnreadable script.Memory reading = Unit {0}

-- a reader answers a reading: its value, by what it holds, or the number of the first unreadable line; it may be out of memory in any case
abbrev pub Gives : {X Y : Type 0} → (X → Y) → Result X ReadError → Result Y ℕ → Type 0
Gives view (Ok x) reading = reading ≡ Ok (view x)
Gives view (Err e) reading = IsFirstUnreadable e reading

-- what the words of a line spell, or else the line's number
abbrev pub of_line : {A : Type 0} → (List (List ℕ) → Option A) → NumberedLine → Result A ℕ
of_line reading line = ok_or (reading line.1) line.0

-- the steps of lines, one for each, or the number of the first unreadable one
abbrev pub steps_of_lines : List NumberedLine → Result (List StepValue) ℕ
steps_of_lines [] = Ok []
steps_of_lines (line ∷ lines) = both (λ step steps. step ∷ steps) (of_line step_of line) (steps_of_lines lines)

-- the script of lines, with the layout first, or the number of the first unreadable one, which is 1 where there is none
abbrev pub script_of_lines : List NumberedLine → Result ScriptValue ℕ
script_of_lines [] = Err 1
script_of_lines (line ∷ lines) =
    both (λ layout steps. record { layout = layout; steps = steps }) (of_line layout_of line) (steps_of_lines lines)

-- the script that an input spells, or the number of its first unreadable line
abbrev pub script_of : List ℕ → Result ScriptValue ℕ
script_of input = script_of_lines (lines_from 1 input)

-- a script that a program can have: its numbers are ones of the program
pub record IsScript (script : ScriptValue) : Type 0 where
  pub layout : IsLayout script.layout
  pub steps : All (λ step. (text_of step).fits) script.steps

-- the line of words: a space between each two of them, and a line feed
abbrev pub line_text : List (List ℕ) → List ℕ
line_text words = listed (codes " ") words ++ codes "\n"

-- the text of a script: the line of its layout, and one for each step
abbrev pub script_text : ScriptValue → List ℕ
script_text script = flat_map line_text (layout_words script.layout ∷ map (λ step. (text_of step).words) script.steps)

-- examples
abbrev four : DataLayoutValue
four = record { len = 4; mode = OwnedMutable; shape = 4 ∷ []; strides = pos 1 ∷ [] }

abbrev two_of_four : StepValue
two_of_four = SliceBy (elem.Slice (pos 1) None (negsuc 1) ∷ []) Strict

abbrev clamped : StepValue
clamped = SliceBy (elem.Slice (pos 9) None (pos 1) ∷ []) Clamp

a_value_given : Gives (λ n. n + 1) (Ok 2) (Ok 3)
a_value_given = refl

a_line_given : Gives {X = ℕ} {Y = ℕ} (λ n. n) (Err (script.Unreadable 4)) (Err 4)
a_line_given = refl

out_of_memory : Gives {X = ℕ} (λ n. n) (Err script.Memory) (Ok 3)
out_of_memory = tt

a_value_for_a_line : Gives {X = ℕ} {Y = ℕ} (λ n. n) (Ok 3) (Err 4) → ⊥
a_value_for_a_line same = false≢true (ap is_ok same)

no_steps_kept : (s : Script) → s.steps.items ≡ [] → (script_value s).steps ≡ []
no_steps_kept s same = ap (map step_value) same

an_unread_line : of_line step_of (3, codes "slise" ∷ []) ≡ Err 3
an_unread_line = refl

with_a_step : script_of (codes "data 4 owned 4 1\nslice 1..;-2\n") ≡ Ok (record { layout = four; steps = two_of_four ∷ [] })
with_a_step = refl

without_a_step : script_of (codes "data 4 owned 4 1") ≡ Ok (record { layout = four; steps = [] })
without_a_step = refl

with_two_steps : script_of (codes "data 4 owned 4 1\nslice 1..;-2\n\nclamp 9..\n")
    ≡ Ok (record { layout = four; steps = two_of_four ∷ clamped ∷ [] })
with_two_steps = refl

nothing : script_of [] ≡ Err 1
nothing = refl

blank_lines : script_of (codes "\n  \n") ≡ Err 1
blank_lines = refl

blank_lines_count : script_of (codes "\ndata 4 owned 4 1\nslise ..\n") ≡ Err 3
blank_lines_count = refl

first_of_two : script_of (codes "data 4 owned 4\nslise ..\n") ≡ Err 1
first_of_two = refl

two_layouts : script_of (codes "data 4 owned 4 1\ndata 4 owned 4 1\n") ≡ Err 2
two_layouts = refl

past_a_step : script_of (codes "data 4 owned 4 1\nslice ..\n\nslise ..\n") ≡ Err 4
past_a_step = refl

three_axes : script_of (codes "data 8 owned 2,2,2 4,2,1\n")
    ≡ Ok (record {
      layout = record { len = 8; mode = OwnedMutable; shape = 2 ∷ 2 ∷ 2 ∷ []; strides = pos 4 ∷ pos 2 ∷ pos 1 ∷ [] };
      steps = [];
    })
three_axes = refl

unended_carriage_return : script_of (codes "data 1 owned 1 1\r") ≡ Err 1
unended_carriage_return = refl

text_of_a_line : line_text (codes "merge" ∷ codes "1" ∷ codes "0" ∷ []) ≡ codes "merge 1 0\n"
text_of_a_line = refl

text_of_two_steps : script_text (record { layout = four; steps = two_of_four ∷ clamped ∷ [] })
    ≡ codes "data 4 owned 4 1\nslice 1..;-2\nclamp 9..\n"
unfolding digits
text_of_two_steps = refl
