use Rattle.std.proofs.Common.{arith}
use Rattle.std.proofs.lemmas.List.{length-map}
use Rattle.ndarray_layout.proofs.Laws.Definitions.{all_signed, signed}
use Rattle.ndarray_layout.proofs.Laws.Span.{reach_le_span, sum_and_others}
use Rattle.ndarray_layout.proofs.Laws.NoAlias.{reach_up_to}
use Rattle.ndarray_layout_c.proofs.Strides.{signed_at}
use Rattle.ndarray_layout_c.proofs.aliases.span_of_others.Goals as goal

pub reach_up_to-own-requires : goal.reach_up_to-own-requires
reach_up_to-own-requires c =
    let strides = c.args.strides.now in
    let read = signed_at strides c.args.axis (omega (arith, c.requires.axis, c.requires.same_count)) in
    let own = reach_le_span c.args.shape.now (all_signed strides) c.args.axis c.requires.axis
    (omega (arith, length-map strides signed, c.requires.same_count)) in
    omega (arith, rw read at own, c.requires.span_fits)

pub overflow_sub-result : goal.overflow_sub-result
overflow_sub-result c =
    let shape = c.args.shape.now in
    let strides = c.args.strides.now in
    let read = signed_at strides c.args.axis (omega (arith, c.requires.axis, c.requires.same_count)) in
    let split = sum_and_others (reach_up_to c.args.magnitude) shape (all_signed strides) c.args.axis c.requires.axis
    (omega (arith, length-map strides signed, c.requires.same_count)) in
    omega (arith, rw read at split, c.span_up_to-all.ensures, c.reach_up_to-own.ensures)

pub returns : goal.returns
returns c =
    let shape = c.args.shape.now in
    let strides = c.args.strides.now in
    let read = signed_at strides c.args.axis (omega (arith, c.requires.axis, c.requires.same_count)) in
    let split = sum_and_others (reach_up_to c.args.magnitude) shape (all_signed strides) c.args.axis c.requires.axis
    (omega (arith, length-map strides signed, c.requires.same_count)) in
    omega (arith, rw read at split, c.span_up_to-all.ensures, c.reach_up_to-own.ensures)
