-- Each comment shortens what is left.
use Rattle.std.proofs.Common.{length}
use Rattle.example_tiles_edits.proofs.reading.after_space.Given as goal

abbrev pub decreases-loop-rest : goal.decreases-loop-rest
decreases-loop-rest l = length l.rest
