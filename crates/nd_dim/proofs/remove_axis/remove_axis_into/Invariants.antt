-- The lengths so far are those of the list without the axis.
use Rattle.std.proofs.Common.{◌≡◌, ◌<◌, ℕ, get_or}
use Rattle.std.specs.Prelude.{remove}
use Rattle.nd_dim.proofs.remove_axis.remove_axis_into.Given as goal

abbrev pub invariant-loop-at : goal.invariant-loop-at
invariant-loop-at l = (k : ℕ) → k < l.at → get_or l.smaller k 0 ≡ get_or (remove l.lens l.axis) k 0
