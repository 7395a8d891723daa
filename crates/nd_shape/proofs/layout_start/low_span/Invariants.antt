-- The sum so far, and that of the axes still to come, make the whole.
use Rattle.std.proofs.Common.{◌≡◌, ◌+◌, length}
use Rattle.nd_base.proofs.Laws.Definitions.{all_signed, low_span, reach_down}
use Rattle.nd_base.proofs.Laws.Span.{sum_from}
use Rattle.nd_shape.proofs.layout_start.low_span.Given as goal

abbrev pub invariant-loop-len : goal.invariant-loop-len
invariant-loop-len l = l.total + sum_from reach_down l.shape l.strides (length l.yielded) ≡ low_span l.shape (all_signed l.strides)
