-- With the steps that were read before, those of the rest are those of all lines.
use Rattle.std.proofs.Common.{◌≡◌, ◌+◌, ◌<◌, ◌^◌, length, map}
use Rattle.ndl_session.specs.text.Lines.{lines_from}
use Rattle.ndl_session.specs.script.Script.{steps_of_lines}
use Rattle.ndarray_layout.specs.Step.{step_value}
use Rattle.ndl_session.proofs.Fronts.{with_front_lines}
use Rattle.ndl_session.proofs.script.read_steps.Given as goal

abbrev pub invariant-loop-steps : goal.invariant-loop-steps
invariant-loop-steps l = record {
  steps : with_front_lines (map step_value l.steps.items) (steps_of_lines (lines_from l.number l.rest))
      ≡ steps_of_lines (lines_from l.fn.number l.text);
  counted : l.number + length l.rest < 2 ^ 64;
}

abbrev pub decreases-loop-steps : goal.decreases-loop-steps
decreases-loop-steps l = length l.rest
