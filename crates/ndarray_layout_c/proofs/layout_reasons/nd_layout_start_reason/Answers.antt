-- The status of what is written is that of the call.
use Rattle.std.proofs.Common.{rules, None, ap, w32, ◌∙◌}
use Rattle.std.proofs.lemmas.Int.{to_z-of_z}
use Rattle.ndarray_layout.specs.Signed.{all_signed}
use Rattle.ndarray_layout_c.specs.Arguments.{mode_named}
use Rattle.ndarray_layout_c.specs.LayoutReasons.{layout_reason}
use Rattle.ndarray_layout_c.proofs.Kept.{returned_ok}
use Rattle.ndarray_layout_c.proofs.LayoutReasonStatus.{status_of_lowest}
use Rattle.ndarray_layout_c.proofs.layout_reasons.nd_layout_start_reason.Goals as goal

pub returns-clause-agrees : goal.returns-clause-agrees
returns-clause-agrees c returned =
    let shape = c.args.shape.now in
    let strides = all_signed c.args.strides.now in
    let mode = ap mode_named (to_z-of_z w32 c.args.mode (search rules)) in
    status_of_lowest shape strides c.args.elem_size c.args.len (mode_named c.args.mode) c.write_reason.new.reason
    (c.write_reason.ensures.reason (returned_ok (search rules) returned)
    ∙ ap (λ mode. layout_reason None c.args.elem_size c.args.len mode shape strides) mode)
