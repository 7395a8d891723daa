-- The axis goes on in each layout so far.
use Rattle.std.proofs.Common.{◌≡◌, ℕ, ◌<◌, pos, ◌*ℤ◌, get_or}
use Rattle.nd_base.proofs.Laws.Definitions.{signed}
use Rattle.ndarray_layout.proofs.strided.joined_layouts.all_go_on.Given as goal

abbrev pub invariant-loop-number : goal.invariant-loop-number
invariant-loop-number g l = (k : ℕ) → k < l.number
    → signed (get_or (g.L.LayoutStrides.strides l.layouts k) l.axis 0) ≡ pos l.len *ℤ signed (get_or l.joined k 0)
