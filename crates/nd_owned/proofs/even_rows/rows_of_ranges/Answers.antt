-- The rows are those of the slice of the view.
use Rattle.std.proofs.Common.{rules, FitsSigned, ap, ◌∙◌, arith, ◌+ℤ◌}
use Rattle.std.specs.Int.{w64}
use Rattle.std.proofs.lemmas.Int.{to_z-of_z}
use Rattle.ndarray_layout.specs.declared.Order.TheVariants.{RowMajor}
use Rattle.ndarray_layout.specs.View.{view_places}
use Rattle.nd_owned.proofs.EvenRows.{begins_there, few_places, is_view, lens_fit, offset_fits, places_are, same_view, starts_fit}
use Rattle.nd_owned.proofs.even_rows.rows_of_ranges.Goals as goal

pub do_slice-requires-clause-len_fits : goal.do_slice-requires-clause-len_fits
do_slice-requires-clause-len_fits c = omega (arith, (lens_fit c.args.lens.0 c.args.lens.1 c.requires.valid).0)

pub do_slice-requires-2-clause-len_fits : goal.do_slice-requires-2-clause-len_fits
do_slice-requires-2-clause-len_fits c = omega (arith, (lens_fit c.args.lens.0 c.args.lens.1 c.requires.valid).1)

pub overflow_add-down : goal.overflow_add-down
overflow_add-down c =
    let f : FitsSigned w64 c.in_ok-down.down = search rules in
    let g : FitsSigned w64 c.in_ok-right.right = search rules in
    rw (to_z-of_z w64 c.in_ok-down.down f, to_z-of_z w64 c.in_ok-right.right g)
    (offset_fits c.args.start c.args.lens c.args.strides c.args.one c.args.other c.requires c.in_ok-down.ensures.fault
    c.in_ok-right.ensures.fault c.in_ok-down.ensures.offset c.in_ok-right.ensures.offset)

pub place_at-start-requires-clause-there : goal.place_at-start-requires-clause-there
place_at-start-requires-clause-there c =
    let f : FitsSigned w64 c.in_ok-down.down = search rules in
    let g : FitsSigned w64 c.in_ok-right.right = search rules in
    let h = offset_fits c.args.start c.args.lens c.args.strides c.args.one c.args.other c.requires c.in_ok-down.ensures.fault
    c.in_ok-right.ensures.fault c.in_ok-down.ensures.offset c.in_ok-right.ensures.offset in
    rw (to_z-of_z w64 c.in_ok-down.down f, to_z-of_z w64 c.in_ok-right.right g, to_z-of_z w64 (c.in_ok-down.down +ℤ c.in_ok-right.right) h)
    (begins_there c.args.start c.args.lens c.args.strides c.args.one c.args.other c.requires c.in_ok-down.ensures.fault
    c.in_ok-right.ensures.fault c.in_ok-down.ensures.offset c.in_ok-right.ensures.offset)

pub invariant_of-result : goal.invariant_of-result
invariant_of-result c =
    let f : FitsSigned w64 c.in_ok-down.down = search rules in
    let g : FitsSigned w64 c.in_ok-right.right = search rules in
    let h = offset_fits c.args.start c.args.lens c.args.strides c.args.one c.args.other c.requires c.in_ok-down.ensures.fault
    c.in_ok-right.ensures.fault c.in_ok-down.ensures.offset c.in_ok-right.ensures.offset in
    let begins = rw (
      to_z-of_z w64 c.in_ok-down.down f,
      to_z-of_z w64 c.in_ok-right.right g,
      to_z-of_z w64 (c.in_ok-down.down +ℤ c.in_ok-right.right) h,
    ) at c.place_at-start.ensures in
    let v = is_view c.args.start c.args.lens c.args.strides c.args.one c.args.other c.requires c.in_ok-down.ensures.fault
    c.in_ok-right.ensures.fault c.in_ok-down.ensures.offset c.in_ok-right.ensures.offset begins c.in_ok-down.ensures.len
    c.in_ok-right.ensures.len c.in_ok-down.ensures.stride c.in_ok-right.ensures.stride in
    record { some = omega arith; fits = few_places v; starts = starts_fit v (omega arith) }

pub returns-clause-places : goal.returns-clause-places
returns-clause-places c =
    let f : FitsSigned w64 c.in_ok-down.down = search rules in
    let g : FitsSigned w64 c.in_ok-right.right = search rules in
    let k : FitsSigned w64 c.signed.result = search rules in
    let h = offset_fits c.args.start c.args.lens c.args.strides c.args.one c.args.other c.requires c.in_ok-down.ensures.fault
    c.in_ok-right.ensures.fault c.in_ok-down.ensures.offset c.in_ok-right.ensures.offset in
    let begins = rw (
      to_z-of_z w64 c.in_ok-down.down f,
      to_z-of_z w64 c.in_ok-right.right g,
      to_z-of_z w64 (c.in_ok-down.down +ℤ c.in_ok-right.right) h,
    ) at c.place_at-start.ensures in
    let v = is_view c.args.start c.args.lens c.args.strides c.args.one c.args.other c.requires c.in_ok-down.ensures.fault
    c.in_ok-right.ensures.fault c.in_ok-down.ensures.offset c.in_ok-right.ensures.offset begins c.in_ok-down.ensures.len
    c.in_ok-right.ensures.len c.in_ok-down.ensures.stride (c.signed.ensures.same_bits ∙ c.in_ok-right.ensures.stride) in
    rw (to_z-of_z w64 c.signed.result k)
    (places_are v (omega arith) (omega arith)
    ∙ ap (view_places RowMajor)
    (same_view c.args.start c.args.lens c.args.strides c.args.one c.args.other c.requires c.in_ok-down.ensures.fault
    c.in_ok-right.ensures.fault c.in_ok-down.ensures.offset c.in_ok-right.ensures.offset begins c.in_ok-down.ensures.len
    c.in_ok-right.ensures.len c.in_ok-down.ensures.stride (c.signed.ensures.same_bits ∙ c.in_ok-right.ensures.stride)))
