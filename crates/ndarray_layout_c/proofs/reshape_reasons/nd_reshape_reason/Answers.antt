-- The status of what is written is that of the call.
use Rattle.std.proofs.Common.{rules, ap, w32, ◌∙◌}
use Rattle.std.proofs.lemmas.Int.{to_z-of_z}
use Rattle.ndarray_layout_c.specs.Arguments.{order_named}
use Rattle.ndarray_layout_c.specs.ReshapeReasons.{reshape_reason}
use Rattle.ndarray_layout_c.proofs.ReshapeReasonStatus.{status_of_reshape}
use Rattle.ndarray_layout_c.proofs.reshape_reasons.nd_reshape_reason.Goals as goal

pub returns-in-Ok-clause-agrees : goal.returns-in-Ok-clause-agrees
returns-in-Ok-clause-agrees c returned =
    let new_shape = c.args.new_shape.now in
    let shape = c.args.shape.now in
    let strides = c.args.strides.now in
    let order = c.order_named.ensures ∙ ap order_named (to_z-of_z w32 c.args.order (search rules)) in
    status_of_reshape (order_named c.args.order) new_shape shape strides c.in-Ok.found
    (c.in-Ok.ensures.reason ∙ ap (λ order. reshape_reason order new_shape shape strides) order)
