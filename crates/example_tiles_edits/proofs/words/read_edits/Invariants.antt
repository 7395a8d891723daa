-- The words before this one are read.
use Rattle.std.proofs.Common.{◌≤◌, ◌-◌, length}
use Rattle.example_tiles_edits.proofs.words.read_edits.Given as goal

abbrev pub invariant-loop-at : goal.invariant-loop-at
invariant-loop-at l = l.at ≤ length l.words

abbrev pub decreases-loop-at : goal.decreases-loop-at
decreases-loop-at l = length l.words - l.at
