-- The status of what is written is that of the call.
use Rattle.std.proofs.Common.{rules, ap, w32, ◌∙◌}
use Rattle.std.proofs.lemmas.Int.{to_z-of_z}
use Rattle.ndarray_layout_c.specs.Arguments.{fit_named}
use Rattle.ndarray_layout_c.specs.Elements.{elems_named}
use Rattle.ndarray_layout_c.specs.SliceReasons.{argument_reason}
use Rattle.ndarray_layout_c.proofs.SliceReasonStatus.{status_of_argument}
use Rattle.ndarray_layout_c.proofs.slice_reasons.nd_slice_reason.Goals as goal

pub returns-in-Ok-clause-agrees : goal.returns-in-Ok-clause-agrees
returns-in-Ok-clause-agrees c returned =
    let shape = c.args.shape.now in
    let elems = elems_named c.args.elems.now in
    let fit = c.fit_named.ensures ∙ ap fit_named (to_z-of_z w32 c.args.fit (search rules)) in
    status_of_argument (fit_named c.args.fit) shape elems c.in-Ok.found
    (c.in-Ok.ensures.reason ∙ ap (λ fit. argument_reason fit shape elems) fit)
