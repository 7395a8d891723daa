-- The sum so far is within the limit, and that of the axes still to come completes it.
use Rattle.std.proofs.Common.{◌≡◌, ◌+◌, ◌≤◌, length}
use Rattle.nd_base.proofs.Laws.Definitions.{all_signed, limit, reach, span}
use Rattle.nd_base.proofs.Laws.Span.{sum_from}
use Rattle.nd_shape.proofs.size_limits.checked_span.Given as goal

abbrev pub invariant-loop-len : goal.invariant-loop-len
invariant-loop-len l = record {
  fits : l.span ≤ limit;
  sum : l.span + sum_from reach l.shape l.strides (length l.yielded) ≡ span l.shape (all_signed l.strides);
}
