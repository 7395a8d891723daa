-- Each axis so far has the length beside it, or a length of 1.
use Rattle.std.proofs.Common.{◌≡◌, ◌⊎◌, ℕ, ◌+◌, ◌-◌, ◌<◌, length, get_or}
use Rattle.ndarray_layout.proofs.strided.broadcasting.stretches_to.Given as goal

abbrev pub invariant-loop-axis : goal.invariant-loop-axis
invariant-loop-axis l = (k : ℕ) → k < l.axis → (get_or l.view_shape k 0 ≡ get_or l.shape (length l.shape - length l.view_shape + k) 0) ⊎
    (get_or l.view_shape k 0 ≡ 1)
