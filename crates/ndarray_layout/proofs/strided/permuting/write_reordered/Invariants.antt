-- The places so far have the items of their axes.
use Rattle.std.proofs.Common.{◌≡◌, ℕ, ◌<◌, length, get_or}
use Rattle.nd_dim.specs.AxesInOrder.{axis_numbers}
use Rattle.ndarray_layout.proofs.strided.permuting.write_reordered.Given as goal

abbrev pub invariant-loop-position : goal.invariant-loop-position
invariant-loop-position l = (length l.moved ≡ length l.axes)
    × ((k : ℕ) → k < l.position → get_or l.moved k 0 ≡ get_or l.items (get_or (axis_numbers l.axes) k 0) 0)
