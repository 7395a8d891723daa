use Rattle.std.proofs.Common.{arith, rules}
use Rattle.ndl_session.proofs.devices.session.session.Goals as goal
use Rattle.ndl_session.proofs.devices.session.session.Goals.{in-Ok, in-Err-ReadFailed, in-Err-OutOfMemory}

-- Only the arm of a failed read has a reader that failed.
pub returns-then-write_failed-clause-text : goal.returns-then-write_failed-clause-text
returns-then-write_failed-clause-text g c = record {
  answered = search rules;
  memory = λ is_three. absurd (omega (arith, is_three));
  input = search rules;
  cut = search rules;
  input_cut = λ read_failed write_failed.
      elim c.match-answer_input.branch [
        | in-Ok w ↦ absurd (let other = w.in-Ok.ensures.failed.0 read_failed in cc)
        | in-Err-ReadFailed w ↦ (let is = w.writer-is in
            rw is (w.write_whole-in-Err-ReadFailed.ensures.cut (rw is at write_failed)))
        | in-Err-OutOfMemory w ↦ absurd (let other = w.in-Err-OutOfMemory.ensures.failed.0 read_failed in
            let this = w.in-Err-OutOfMemory.field-0-is in cc)
      ];
}
