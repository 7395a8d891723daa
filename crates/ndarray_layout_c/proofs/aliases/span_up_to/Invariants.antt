-- The sum so far, and that of the axes still to come, make the whole.
use Rattle.std.proofs.Common.{◌≡◌, ◌+◌}
use Rattle.ndarray_layout.specs.NoAlias.{span_up_to}
use Rattle.ndarray_layout.specs.Signed.{all_signed}
use Rattle.ndarray_layout.proofs.Laws.NoAlias.{reach_up_to}
use Rattle.ndarray_layout.proofs.Laws.Span.{sum_from}
use Rattle.ndarray_layout_c.proofs.aliases.span_up_to.Given as goal

abbrev pub invariant-loop-axis : goal.invariant-loop-axis
invariant-loop-axis l =
    l.total + sum_from (reach_up_to l.magnitude) l.shape l.strides l.axis ≡ span_up_to l.magnitude l.shape (all_signed l.strides)
