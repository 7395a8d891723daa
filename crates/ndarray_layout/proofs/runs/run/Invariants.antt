-- The steps so far leave the view that there is.
use Rattle.std.proofs.Common.{map, take}
use Rattle.ndarray_layout.specs.Run.{Leave}
use Rattle.ndarray_layout.specs.Step.{step_value}
use Rattle.ndarray_layout.proofs.runs.run.Given as goal

abbrev pub invariant-loop-at : goal.invariant-loop-at
invariant-loop-at l = Leave (take l.at (map step_value l.steps)) l.fn.view l.view
