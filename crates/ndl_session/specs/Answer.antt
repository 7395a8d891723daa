-- What the program writes, and its exit status, for each input.
use Rattle.std.specs.Prelude.{◌≡◌, ℕ, ◌+◌, Option, Some, None, Result, Ok, Err, List, ◌++◌, map, codes, decimal, refl}
use Rattle.std.proofs.Common.{sym, ◌∙◌, suc-ne-zero}
use Rattle.std.specs.Fmt.{signed_decimal, digits}
use Rattle.ndarray_layout.specs.declared.ErrorKind.{ErrorKind}
use Rattle.ndarray_layout.specs.declared.Order.TheVariants.{RowMajor}
use Rattle.ndarray_layout.specs.ErrorText.{shape_error_text}
use Rattle.ndarray_layout.specs.Span.{low_span}
use Rattle.ndarray_layout.specs.Acceptance.{acceptance}
use Rattle.ndarray_layout.specs.Run.{Outcome, run_of}
use Rattle.ndarray_layout.specs.Step.{StepValue}
use Rattle.ndarray_layout.specs.View.{View, view_places}
use Rattle.ndl_session.specs.declared.answer.Answer.{Answer}
use Rattle.ndl_session.specs.script.DataLine.{DataLayoutValue}
use Rattle.ndl_session.specs.script.Script.{ScriptValue, script_of}
use Rattle.ndl_session.specs.text.Printing.{line, listed}

-- a text that goes out, and an exit status
pub record Reply : Type 0 where
  pub text : List ℕ
  pub status : ℕ

-- the reply to an input with an unreadable line
abbrev pub unreadable : ℕ → Reply
unreadable number = record { text = codes "line " ++ decimal number ++ codes ": unreadable\n"; status = 2 }

-- the reply where a step has a fault: step 0 is the layout, and the steps after it count from 1
abbrev pub step_failed : ℕ → ErrorKind → Reply
step_failed step kind = record { text = codes "step " ++ decimal step ++ codes ": " ++ shape_error_text kind ++ codes "\n"; status = 1 }

-- the reply where every step was done: the view that is left, and where its elements lie
abbrev pub listing : View → Reply
listing view = record {
  text = line (codes "shape") (listed (codes ",") (map decimal view.shape))
      ++ line (codes "strides") (listed (codes ",") (map signed_decimal view.strides))
      ++ line (codes "places") (listed (codes " ") (map signed_decimal (view_places RowMajor view)));
  status = 0;
}

-- the reply to the fault where a step has one, or else another reply
abbrev pub unless : ℕ → Option ErrorKind → Reply → Reply
unless step (Some kind) reply = step_failed step kind
unless step None reply = reply

-- the view of a layout over its data, where the data's first element is the lowest place of an index
abbrev pub view_of_layout : DataLayoutValue → View
view_of_layout layout = record { start = low_span layout.shape layout.strides; shape = layout.shape; strides = layout.strides }

-- the reply to a run of steps with or without a fault, where the first step has number 1
abbrev pub reply_to_run : Option ErrorKind → Outcome → Reply
reply_to_run None run = listing run.view
reply_to_run (Some kind) run = step_failed (run.taken + 1) kind

-- the reply to steps from a view
abbrev pub reply_to_steps : List StepValue → View → Reply
reply_to_steps steps view = reply_to_run (run_of steps view).fault (run_of steps view)

-- the reply to a script: its layout has a fault, or its steps are taken from the view of it; each element takes one byte
abbrev pub reply_to_script : ScriptValue → Reply
reply_to_script script =
    let layout = script.layout in
    unless 0 (acceptance 1 layout.len layout.mode layout.shape layout.strides) (reply_to_steps script.steps (view_of_layout layout))

-- the reply to a script, or to the number of an unreadable line
abbrev pub reply_to_reading : Result ScriptValue ℕ → Reply
reply_to_reading (Ok script) = reply_to_script script
reply_to_reading (Err number) = unreadable number

-- the reply to an input
abbrev pub answer_of : List ℕ → Reply
answer_of input = reply_to_reading (script_of input)

-- an answer has the text and the status of a reply
pub record IsReply (answer : Answer) (reply : Reply) : Type 0 where
  pub text : answer.text.items ≡ reply.text
  pub status : answer.status ≡ reply.status

-- examples
an_unreadable_line : (answer : Answer) → answer.text.items ≡ codes "line 1: unreadable\n" → answer.status ≡ 2
    → IsReply answer (unreadable 1)
unfolding digits
an_unreadable_line answer text status = record { text = text; status = status }

another_status : (answer : Answer) → answer.status ≡ 0 → IsReply answer (unreadable 1) → ⊥
another_status answer status reply = suc-ne-zero 1 (sym reply.status ∙ status)

back_by_two : answer_of (codes "data 4 owned 4 1\nslice 1..;-2\n")
    ≡ record { text = codes "shape 2\nstrides -2\nplaces 3 1\n"; status = 0 }
unfolding digits
back_by_two = refl

nothing_left : answer_of (codes "data 4 owned 4 1\nslice 2..2\n")
    ≡ record { text = codes "shape 0\nstrides 0\nplaces -\n"; status = 0 }
unfolding digits
nothing_left = refl

three_axes : answer_of (codes "data 24 owned 2,3,4 12,4,1\nslice ..,1..;-1,0..4;2\n")
    ≡ record { text = codes "shape 2,2,2\nstrides 12,-4,2\nplaces 8 10 4 6 20 22 16 18\n"; status = 0 }
unfolding digits
three_axes = refl

row_with_new_axis : answer_of (codes "data 6 owned 2,3 3,1\nslice 1,NewAxis,..\n")
    ≡ record { text = codes "shape 1,3\nstrides 0,1\nplaces 3 4 5\n"; status = 0 }
unfolding digits
row_with_new_axis = refl

without_axes : answer_of (codes "data 1 owned - -\nslice -\n")
    ≡ record { text = codes "shape -\nstrides -\nplaces 0\n"; status = 0 }
unfolding digits
without_axes = refl

step_by_step : answer_of (codes "data 6 owned 2,3 3,1\nslice ..;-1,..\nslice 0,1..\n")
    ≡ record { text = codes "shape 2\nstrides 1\nplaces 4 5\n"; status = 0 }
unfolding digits
step_by_step = refl

clamped : answer_of (codes "data 4 owned 4 1\nclamp -9..9;-2\n")
    ≡ record { text = codes "shape 2\nstrides -2\nplaces 3 1\n"; status = 0 }
unfolding digits
clamped = refl

index_past_the_end : answer_of (codes "data 4 owned 4 1\nslice ..\nclamp 4\n")
    ≡ record { text = codes "step 2: ShapeError/OutOfBounds: out of bounds indexing\n"; status = 1 }
unfolding digits
index_past_the_end = refl

collapsed_merged_and_broadcast : answer_of (codes "data 6 owned 2,3 3,1\ncollapse 0 1\nmerge 0 1\nbroadcast 2,2,3\n")
    ≡ record { text = codes "shape 2,2,3\nstrides 0,0,1\nplaces 3 4 5 3 4 5 3 4 5 3 4 5\n"; status = 0 }
unfolding digits
collapsed_merged_and_broadcast = refl

reshaped : answer_of (codes "data 6 owned 2,3 3,1\nreshape C 3,2\n")
    ≡ record { text = codes "shape 3,2\nstrides 2,1\nplaces 0 1 2 3 4 5\n"; status = 0 }
unfolding digits
reshaped = refl

reshaped_by_columns : answer_of (codes "data 6 owned 2,3 3,1\nreshape F 3,2\n")
    ≡ record { text = codes "step 1: ShapeError/IncompatibleLayout: incompatible memory layout\n"; status = 1 }
unfolding digits
reshaped_by_columns = refl

columns_into_rows : answer_of (codes "data 6 owned 2,3 3,1\nslice ..,..\nmerge 1 0\ncollapse 9 9\n")
    ≡ record { text = codes "step 2: ShapeError/IncompatibleLayout: incompatible memory layout\n"; status = 1 }
unfolding digits
columns_into_rows = refl

one_element_for_two_axes : answer_of (codes "data 6 owned 2,3 3,1\nslice 1..\n")
    ≡ record { text = codes "step 1: ShapeError/IncompatibleShape: incompatible shapes\n"; status = 1 }
unfolding digits
one_element_for_two_axes = refl

counts_differ : answer_of (codes "data 6 owned 2,3 1\n")
    ≡ record { text = codes "step 0: ShapeError/IncompatibleLayout: incompatible memory layout\n"; status = 1 }
unfolding digits
counts_differ = refl

misspelled : answer_of (codes "data 6 owned 2,3 3,1\nslice ..,..\nslise ..\n")
    ≡ record { text = codes "line 3: unreadable\n"; status = 2 }
unfolding digits
misspelled = refl

least_stride : answer_of (codes "data 2 owned 1,2 -9223372036854775808,1\n")
    ≡ record { text = codes "shape 1,2\nstrides -9223372036854775808,1\nplaces 0 1\n"; status = 0 }
unfolding digits
least_stride = refl
