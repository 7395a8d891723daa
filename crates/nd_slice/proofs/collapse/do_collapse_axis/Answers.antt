-- A coordinate of an axis of a valid layout lies no farther than the span.
use Rattle.std.proofs.Common.{◌≡◌, pos, get_or, ap, arith, w64, ◌-◌, ◌≤◌}
use Rattle.std.proofs.lemmas.Int.{fits_signed_mul}
use Rattle.std.proofs.lemmas.List.{get_or-map, length-map}
use Rattle.nd_slice.proofs.Definitions.{all_signed, limit, magnitude, reach, signed}
use Rattle.nd_base.proofs.Laws.NonzeroSize.{length_le_nonzero_size}
use Rattle.nd_base.proofs.Laws.Span.{sum_and_others}
use Rattle.nd_slice.proofs.collapse.do_collapse_axis.Goals as goal

pub stride_offset-offset-requires-clause-small : goal.stride_offset-offset-requires-clause-small
stride_offset-offset-requires-clause-small g c =
    omega (arith, length_le_nonzero_size (g.D.Lengths.list c.args.dims.now) c.args.axis, c.requires.valid.size_fits, c.requires.below)

pub stride_offset-offset-requires-clause-fits : goal.stride_offset-offset-requires-clause-fits
stride_offset-offset-requires-clause-fits g c =
    let shape = g.D.Lengths.list c.args.dims.now in
    let strides = g.D.Lengths.list c.args.strides.now in
    let len = get_or shape c.args.axis 0 in
    let whole = sum_and_others reach shape (all_signed strides) c.args.axis c.requires.exists c.requires.valid.same_count in
    let stride : get_or (all_signed strides) c.args.axis (pos 0) ≡ signed (get_or strides c.args.axis 0) =
    get_or-map signed strides c.args.axis 0 (pos 0)
    (omega (arith, c.requires.exists, c.requires.valid.same_count, length-map strides signed)) in
    let within : reach len (signed (get_or strides c.args.axis 0)) ≤ limit =
    omega (arith, ap (reach len) stride, whole, c.requires.valid.span_fits) in
    let step = signed (get_or strides c.args.axis 0) in
    rw c.slice.ensures.list (fits_signed_mul w64 (pos c.args.index) step (len - 1) (magnitude step) (omega (arith, c.requires.below))
    (omega arith) (omega (arith, within)))
