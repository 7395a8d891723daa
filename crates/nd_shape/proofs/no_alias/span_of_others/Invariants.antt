-- The sum so far, and that of the axes still to come, make the whole, but for the axis that is left out.
use Rattle.std.proofs.Common.{◌≡◌, ◌+◌, ◌<◌, ◌≤◌, get_or}
use Rattle.nd_base.proofs.Laws.Definitions.{all_signed, signed}
use Rattle.nd_shape.specs.NoAlias.{span_up_to}
use Rattle.nd_shape.proofs.Laws.NoAlias.{reach_up_to}
use Rattle.nd_base.proofs.Laws.Span.{sum_from}
use Rattle.nd_shape.proofs.no_alias.span_of_others.Given as goal

abbrev pub invariant-loop-other : goal.invariant-loop-other
invariant-loop-other l = record {
  before : l.other ≤ l.axis → l.total + sum_from (reach_up_to l.magnitude) l.shape l.strides l.other
      ≡ span_up_to l.magnitude l.shape (all_signed l.strides);
  after : l.axis < l.other
      → l.total + reach_up_to l.magnitude (get_or l.shape l.axis 0) (signed (get_or l.strides l.axis 0))
      + sum_from (reach_up_to l.magnitude) l.shape l.strides l.other
      ≡ span_up_to l.magnitude l.shape (all_signed l.strides);
}
