-- The axes so far have their meanings.
use Rattle.std.proofs.Common.{◌≡◌, take}
use Rattle.ndarray_layout.specs.AxesInOrder.{axis_numbers}
use Rattle.ndarray_layout_c.proofs.shapes.many_axes.Given as goal

abbrev pub invariant-loop-number : goal.invariant-loop-number
invariant-loop-number l = axis_numbers l.axes.items ≡ take l.number-index l.numbers
