-- The axes so far have their meanings.
use Rattle.std.proofs.Common.{◌≡◌, length, take}
use Rattle.ndarray_layout.specs.AxesInOrder.{axis_numbers}
use Rattle.ndarray_layout_c.proofs.shapes.few_axes.Given as goal

abbrev pub invariant-loop-place : goal.invariant-loop-place
invariant-loop-place l = (length l.axes ≡ 4) × (axis_numbers (take l.place l.axes) ≡ take l.place l.numbers)
