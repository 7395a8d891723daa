-- What is written descends from the layout, wherever it starts.
use Rattle.std.proofs.Common.{rules, ap, ap₂, sym, w32, ◌∙◌}
use Rattle.std.proofs.lemmas.Int.{to_z-of_z}
use Rattle.ndarray_layout.specs.ReshapedView.{reshaped_strides, view_reshape_fault}
use Rattle.ndarray_layout_c.proofs.Kept.{reshape_kept, returned_ok}
use Rattle.ndarray_layout_c.specs.Arguments.{order_named}
use Rattle.ndarray_layout_c.proofs.shapes.nd_reshape.Goals as goal

pub returns-in-Ok-clause-kept : goal.returns-in-Ok-clause-kept
returns-in-Ok-clause-kept c returned =
    let is_ok = returned_ok (search rules) returned in
    let target = c.args.new_shape.now in
    let order = c.order_named.ensures ∙ ap order_named (to_z-of_z w32 c.args.order (search rules)) in
    let view = c.in-Ok.ensures.view in
    reshape_kept c.args.strides.now c.write_reshaped.new.new_strides (order_named c.args.order) target
    (sym (ap₂ (λ order view. view_reshape_fault order target view) order view) ∙ c.write_reshaped.ensures.fits is_ok)
    (c.write_reshaped.ensures.strides is_ok ∙ ap₂ (λ order view. reshaped_strides order target view) order view)
