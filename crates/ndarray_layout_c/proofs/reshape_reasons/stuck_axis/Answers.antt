use Rattle.std.proofs.Common.{length, sym, ap, ◌∙◌}
use Rattle.std.specs.Option.{option_map_or}
use Rattle.ndarray_layout.specs.Dim.{lengths}
use Rattle.ndarray_layout_c.specs.ReshapeReasons.{axis_read, is_stuck}
use Rattle.ndarray_layout_c.proofs.FirstOf.{first_found, first_passed}
use Rattle.ndarray_layout_c.proofs.reshape_reasons.stuck_axis.Goals as goal

pub returns-in-RowMajor-clause-axis : goal.returns-in-RowMajor-clause-axis
returns-in-RowMajor-clause-axis c =
    let ndim = length c.args.shape.now in
    let first = first_found (is_stuck c.args.order (lengths c.args.new_shape.now) c.args.shape.now c.args.strides.now)
    c.loop-before.before ndim c.loop-before-test.true (sym c.in_ok-is_stuck.ensures.stuck ∙ c.if-branch.true) c.loop-before.invariant in
    sym (ap (λ order. axis_read order ndim c.loop-before.before) c.in-RowMajor.is)
    ∙ ap (λ found. option_map_or (axis_read c.args.order ndim) found 0) first

pub returns-in-ColumnMajor-clause-axis : goal.returns-in-ColumnMajor-clause-axis
returns-in-ColumnMajor-clause-axis c =
    let ndim = length c.args.shape.now in
    let first = first_found (is_stuck c.args.order (lengths c.args.new_shape.now) c.args.shape.now c.args.strides.now)
    c.loop-before.before ndim c.loop-before-test.true (sym c.in_ok-is_stuck.ensures.stuck ∙ c.if-branch.true) c.loop-before.invariant in
    sym (ap (λ order. axis_read order ndim c.loop-before.before) c.in-ColumnMajor.is)
    ∙ ap (λ found. option_map_or (axis_read c.args.order ndim) found 0) first

pub loop-before-preserved : goal.loop-before-preserved
loop-before-preserved c =
    first_passed (is_stuck c.args.order (lengths c.args.new_shape.now) c.args.shape.now c.args.strides.now)
    c.loop-before.before (length c.args.shape.now) c.loop-before-test.true
    (sym c.in_ok-is_stuck.ensures.stuck ∙ c.if-branch.false) c.loop-before.invariant
