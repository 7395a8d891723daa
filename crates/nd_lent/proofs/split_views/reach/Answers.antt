-- A span is what lies below the start and above it.
use Rattle.std.proofs.Common.{◌≡◌, ◌+◌, ◌-◌, ap, ◌∙◌}
use Rattle.ndarray_layout.specs.Span.{high_span}
use Rattle.nd_lent.proofs.Within.{above_of_span}
use Rattle.nd_lent.proofs.split_views.reach.Goals as goal

pub overflow_sub-result-2 : goal.overflow_sub-result-2
overflow_sub-result-2 g c = (above_of_span _ _ c.offset_from_low_addr_ptr_to_logical_ptr-low.ensures c.in_ok-span.ensures.span).0

pub returns-clause-highest : goal.returns-clause-highest
returns-clause-highest g c =
    let view = c.args.view.now in
    let reach = c.in_ok-span.span - c.offset_from_low_addr_ptr_to_logical_ptr-low.result in
    let above : reach ≡ high_span view.shape view.strides =
    rw (← c.dim-dim.ensures.list, ← c.strides-strides.ensures.list)
    ((above_of_span _ _ c.offset_from_low_addr_ptr_to_logical_ptr-low.ensures c.in_ok-span.ensures.span).1) in
    ap (λ start. start + reach) c.start-2.ensures.place ∙ ap (λ n. view.start + n) above
