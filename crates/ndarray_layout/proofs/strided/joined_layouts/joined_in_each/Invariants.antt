-- The axes so far are one in each layout.
use Rattle.ndarray_layout.specs.JoinedInAll.{AreJoinedBy}
use Rattle.ndarray_layout.proofs.strided.joined_layouts.joined_in_each.Given as goal

abbrev pub invariant-loop-count : goal.invariant-loop-count
invariant-loop-count g l = AreJoinedBy l.order l.lens (g.L.LayoutStrides.strides l.layouts) l.count l.len l.joined
