use Rattle.std.proofs.Common.{◌≡◌, ◌+◌, ◌≤◌, get_or, arith}
use Rattle.std.proofs.lemmas.List.{length-map}
use Rattle.ndarray_layout.proofs.Laws.Definitions.{all_signed, signed, reach, span}
use Rattle.ndarray_layout.proofs.Laws.Span.{sum_from, sum_from_step, sum_from_end, sum_le, reach_le_span}
use Rattle.ndarray_layout.specs.NoAlias.{span_up_to}
use Rattle.ndarray_layout.proofs.Laws.NoAlias.{reach_up_to, reach_up_to_le}
use Rattle.ndarray_layout_c.proofs.Strides.{signed_at}
use Rattle.ndarray_layout_c.proofs.aliases.span_up_to.Goals as goal
use Rattle.ndarray_layout_c.proofs.aliases.span_up_to.Goals.{In-loop-axis}

-- the reach of this axis, and that of those after it
step : (c : In-loop-axis) → sum_from (reach_up_to c.args.magnitude) c.args.shape.now c.args.strides.now c.loop-axis.axis
    ≡ reach_up_to c.args.magnitude (get_or c.args.shape.now c.loop-axis.axis 0) (signed (get_or c.args.strides.now c.loop-axis.axis 0))
    + sum_from (reach_up_to c.args.magnitude) c.args.shape.now c.args.strides.now (c.loop-axis.axis + 1)
step c = sum_from_step (reach_up_to c.args.magnitude) c.args.shape.now c.args.strides.now c.loop-axis.axis
    (omega (arith, c.loop-axis-test.true)) (omega (arith, c.loop-axis-test.true, c.requires.same_count))

-- all axes reach no farther than the limit
whole_fits : (c : In-loop-axis) → span_up_to c.args.magnitude c.args.shape.now (all_signed c.args.strides.now)
    ≤ span c.args.shape.now (all_signed c.args.strides.now)
whole_fits c =
    sum_le (reach_up_to c.args.magnitude) reach (reach_up_to_le c.args.magnitude) c.args.shape.now (all_signed c.args.strides.now)

pub reach_up_to-far-requires : goal.reach_up_to-far-requires
reach_up_to-far-requires c =
    let strides = c.args.strides.now in
    let read = signed_at strides c.loop-axis.axis (omega (arith, c.loop-axis-test.true, c.requires.same_count)) in
    let count = length-map strides signed in
    let own = reach_le_span c.args.shape.now (all_signed strides) c.loop-axis.axis c.loop-axis-test.true
    (omega (arith, count, c.requires.same_count)) in
    omega (arith, rw read at own, c.requires.span_fits)

pub overflow_add-total : goal.overflow_add-total
overflow_add-total c =
    let at = (goal.at.overflow_add-total c).In-loop-axis in
    omega (arith, step at, whole_fits at, c.reach_up_to-far.ensures, c.loop-axis.invariant, c.requires.span_fits)

pub loop-axis-preserved : goal.loop-axis-preserved
loop-axis-preserved c =
    let at = (goal.at.loop-axis-preserved c).In-loop-axis in
    omega (arith, step at, c.reach_up_to-far.ensures, c.loop-axis.invariant)

pub returns : goal.returns
returns c =
    let end = sum_from_end (reach_up_to c.args.magnitude) c.args.shape.now c.args.strides.now c.loop-axis.axis
    (omega (arith, c.loop-axis-test.false)) in
    omega (arith, end, c.loop-axis.invariant)
