-- The layouts so far have the stride of the axis.
use Rattle.std.proofs.Common.{◌≡◌, ℕ, ◌<◌, get_or}
use Rattle.ndarray_layout.proofs.strided.joined_layouts.begin_along.Given as goal

abbrev pub invariant-loop-number : goal.invariant-loop-number
invariant-loop-number g l = (k : ℕ) → k < l.number → get_or l.joined k 0 ≡ get_or (g.L.LayoutStrides.strides l.layouts k) l.axis 0
