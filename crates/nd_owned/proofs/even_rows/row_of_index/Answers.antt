-- The row is that of the slice of the view.
use Rattle.std.proofs.Common.{rules, FitsSigned, ap, ◌∙◌, arith, ◌+ℤ◌, ◌*ℤ◌}
use Rattle.std.specs.Int.{w64}
use Rattle.std.proofs.lemmas.Int.{to_z-of_z}
use Rattle.ndarray_layout.specs.Signed.{signed}
use Rattle.nd_owned.proofs.EvenRows.{coordinate_fits, lens_fit, one_start, row_begins_there, row_is_view, row_offset_fits, row_places_are}
use Rattle.nd_owned.proofs.EvenRows.{few_in_row}
use Rattle.nd_owned.proofs.even_rows.row_of_index.Goals as goal

pub stride_offset-down-requires-clause-small : goal.stride_offset-down-requires-clause-small
stride_offset-down-requires-clause-small c =
    let i : FitsSigned w64 c.args.index = search rules in
    let known = rw (to_z-of_z w64 c.args.index i) at c.in_ok-coordinate.ensures in
    (coordinate_fits c.args.start c.args.lens c.args.strides c.args.index c.args.range c.requires known.fault known.coordinate).0

pub stride_offset-down-requires-clause-fits : goal.stride_offset-down-requires-clause-fits
stride_offset-down-requires-clause-fits c =
    let i : FitsSigned w64 c.args.index = search rules in
    let known = rw (to_z-of_z w64 c.args.index i) at c.in_ok-coordinate.ensures in
    (coordinate_fits c.args.start c.args.lens c.args.strides c.args.index c.args.range c.requires known.fault known.coordinate).1

pub do_slice-requires-clause-len_fits : goal.do_slice-requires-clause-len_fits
do_slice-requires-clause-len_fits c = omega (arith, (lens_fit c.args.lens.0 c.args.lens.1 c.requires.valid).1)

pub overflow_add-down : goal.overflow_add-down
overflow_add-down c =
    let i : FitsSigned w64 c.args.index = search rules in
    let f : FitsSigned w64 c.stride_offset-down.result = search rules in
    let g : FitsSigned w64 c.in_ok-right.right = search rules in
    let known = rw (to_z-of_z w64 c.args.index i) at c.in_ok-coordinate.ensures in
    let down = c.stride_offset-down.ensures ∙ ap (λ z. z *ℤ signed c.args.strides.0) known.coordinate in
    rw (to_z-of_z w64 c.stride_offset-down.result f, to_z-of_z w64 c.in_ok-right.right g)
    (row_offset_fits c.args.start c.args.lens c.args.strides c.args.index c.args.range c.requires known.fault
    c.in_ok-right.ensures.fault down c.in_ok-right.ensures.offset)

pub place_at-start-requires-clause-there : goal.place_at-start-requires-clause-there
place_at-start-requires-clause-there c =
    let i : FitsSigned w64 c.args.index = search rules in
    let f : FitsSigned w64 c.stride_offset-down.result = search rules in
    let g : FitsSigned w64 c.in_ok-right.right = search rules in
    let known = rw (to_z-of_z w64 c.args.index i) at c.in_ok-coordinate.ensures in
    let down = c.stride_offset-down.ensures ∙ ap (λ z. z *ℤ signed c.args.strides.0) known.coordinate in
    let h = row_offset_fits c.args.start c.args.lens c.args.strides c.args.index c.args.range c.requires known.fault
    c.in_ok-right.ensures.fault down c.in_ok-right.ensures.offset in
    rw (
      to_z-of_z w64 c.stride_offset-down.result f,
      to_z-of_z w64 c.in_ok-right.right g,
      to_z-of_z w64 (c.stride_offset-down.result +ℤ c.in_ok-right.right) h,
    )
    (row_begins_there c.args.start c.args.lens c.args.strides c.args.index c.args.range c.requires known.fault
    c.in_ok-right.ensures.fault down c.in_ok-right.ensures.offset)

pub invariant_of-result : goal.invariant_of-result
invariant_of-result c =
    let i : FitsSigned w64 c.args.index = search rules in
    let f : FitsSigned w64 c.stride_offset-down.result = search rules in
    let g : FitsSigned w64 c.in_ok-right.right = search rules in
    let known = rw (to_z-of_z w64 c.args.index i) at c.in_ok-coordinate.ensures in
    let down = c.stride_offset-down.ensures ∙ ap (λ z. z *ℤ signed c.args.strides.0) known.coordinate in
    let h = row_offset_fits c.args.start c.args.lens c.args.strides c.args.index c.args.range c.requires known.fault
    c.in_ok-right.ensures.fault down c.in_ok-right.ensures.offset in
    let begins = rw (
      to_z-of_z w64 c.stride_offset-down.result f,
      to_z-of_z w64 c.in_ok-right.right g,
      to_z-of_z w64 (c.stride_offset-down.result +ℤ c.in_ok-right.right) h,
    ) at c.place_at-start.ensures in
    let v = row_is_view c.args.start c.args.lens c.args.strides c.args.index c.args.range c.requires known.fault
    c.in_ok-right.ensures.fault down c.in_ok-right.ensures.offset begins c.in_ok-right.ensures.len c.in_ok-right.ensures.stride in
    record { some = omega arith; fits = few_in_row v; starts = one_start (omega (arith, v.high)) }

pub returns-clause-places : goal.returns-clause-places
returns-clause-places c =
    let i : FitsSigned w64 c.args.index = search rules in
    let f : FitsSigned w64 c.stride_offset-down.result = search rules in
    let g : FitsSigned w64 c.in_ok-right.right = search rules in
    let k : FitsSigned w64 c.signed.result = search rules in
    let known = rw (to_z-of_z w64 c.args.index i) at c.in_ok-coordinate.ensures in
    let down = c.stride_offset-down.ensures ∙ ap (λ z. z *ℤ signed c.args.strides.0) known.coordinate in
    let h = row_offset_fits c.args.start c.args.lens c.args.strides c.args.index c.args.range c.requires known.fault
    c.in_ok-right.ensures.fault down c.in_ok-right.ensures.offset in
    let begins = rw (
      to_z-of_z w64 c.stride_offset-down.result f,
      to_z-of_z w64 c.in_ok-right.right g,
      to_z-of_z w64 (c.stride_offset-down.result +ℤ c.in_ok-right.right) h,
    ) at c.place_at-start.ensures in
    rw (to_z-of_z w64 c.signed.result k)
    (row_places_are c.args.start c.args.lens c.args.strides c.args.index c.args.range c.requires known.fault
    c.in_ok-right.ensures.fault down c.in_ok-right.ensures.offset begins c.in_ok-right.ensures.len
    (c.signed.ensures.same_bits ∙ c.in_ok-right.ensures.stride) (omega arith))
