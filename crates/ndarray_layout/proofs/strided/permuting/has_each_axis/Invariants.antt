-- Each axis so far is in the list.
use Rattle.std.proofs.Common.{◌≡◌, ◌==◌, true, ℕ, ◌<◌}
use Rattle.std.specs.List.{list_any}
use Rattle.ndarray_layout.proofs.strided.permuting.has_each_axis.Given as goal

abbrev pub invariant-loop-number : goal.invariant-loop-number
invariant-loop-number l = (k : ℕ) → k < l.number → list_any (λ axis. k == axis.0) l.axes ≡ true
