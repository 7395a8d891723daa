-- Each axis moves by its coordinate, which is the remainder; the quotient is the flat index of the axes that move slower.
use Rattle.std.proofs.Common.{rules, ◌+ℤ◌, FitsSigned, to_z, of_z, arith}
use Rattle.std.specs.Int.{w64}
use Rattle.std.proofs.lemmas.Int.{ints, to_z-of_z}
use Rattle.std.proofs.lemmas.Nat.{mod_below}
use Rattle.ndarray_layout.proofs.NextRow.{axis_of_flat}
use Rattle.ndarray_layout.proofs.NthRow.{flat_place, has_whole, len_small, move_fits, moves, on_one, others_have, some_len, stays}
use Rattle.ndarray_layout.proofs.strided.nth_row.offset_of_flat.Goals as goal
use Rattle.ndarray_layout.proofs.strided.nth_row.offset_of_flat.Goals.{then-axis-gt1, else-axis-gt1}

pub axes-init : goal.axes-init
axes-init c = record {
  has = has_whole c.requires.valid c.requires.index;
  same = omega (arith, ints);
}

pub stride_offset-offset-requires-clause-small : goal.stride_offset-offset-requires-clause-small
stride_offset-offset-requires-clause-small c =
    let has = c.axes.invariant.has in
    omega (
      arith,
      mod_below c.axes.left c.in-Some.axis.len (some_len has c.in-Some.axis c.in-Some.ensures),
      len_small has c.in-Some.axis c.in-Some.ensures,
    )

pub stride_offset-offset-requires-clause-fits : goal.stride_offset-offset-requires-clause-fits
stride_offset-offset-requires-clause-fits c =
    let has = c.axes.invariant.has in
    let on = axis_of_flat c.in-Some.axis.len c.axes.left (some_len has c.in-Some.axis c.in-Some.ensures) in
    move_fits has c.in-Some.axis c.in-Some.ensures on

pub overflow_add-offset : goal.overflow_add-offset
overflow_add-offset c =
    let f : FitsSigned w64 c.stride_offset-offset.result = search rules in
    let has = c.axes.invariant.has in
    let on = axis_of_flat c.in-Some.axis.len c.axes.left (some_len has c.in-Some.axis c.in-Some.ensures) in
    let here = flat_place c.args.order (has_whole c.requires.valid c.requires.index) in
    let there = flat_place c.args.order (others_have has c.in-Some.axis c.in-Some.ensures on) in
    omega (
      arith,
      ints,
      to_z-of_z w64 c.stride_offset-offset.result f,
      c.stride_offset-offset.ensures,
      here.0,
      here.1,
      there.0,
      there.1,
      moves has c.in-Some.axis c.in-Some.ensures on,
      c.axes.invariant.same,
    )

pub axes-preserved : goal.axes-preserved
axes-preserved c =
    let has = c.axes.invariant.has in
    elim c.if-axis-gt1.branch [
      | then-axis-gt1 w ↦
          let f : FitsSigned w64 w.stride_offset-offset.result = search rules in
          let on = axis_of_flat c.in-Some.axis.len c.axes.left (some_len has c.in-Some.axis c.in-Some.ensures) in
          let here = flat_place c.args.order (has_whole c.requires.valid c.requires.index) in
          let others = others_have has c.in-Some.axis c.in-Some.ensures on in
          let there = flat_place c.args.order others in
          let is = to_z-of_z w64 w.stride_offset-offset.result f in
          let known = w.stride_offset-offset.ensures in
          let moved = moves has c.in-Some.axis c.in-Some.ensures on in
          let sum = to_z w64 c.axes.offset-bits +ℤ to_z w64 (of_z w64 w.stride_offset-offset.result) in
          let fits : FitsSigned w64 sum =
          omega (arith, ints, is, known, here.0, here.1, there.0, there.1, moved, c.axes.invariant.same) in
          rw (w.offset-is, w.left-is) (record {
            has = others;
            same = omega (arith, ints, is, known, to_z-of_z w64 sum fits, moved, c.axes.invariant.same);
          })
      | else-axis-gt1 w ↦
          let one = on_one has c.in-Some.axis c.in-Some.ensures (omega (arith, w.if-axis-gt1.false)) in
          rw (w.offset-is, w.left-is) (record {
            has = others_have has c.in-Some.axis c.in-Some.ensures one;
            same = omega (arith, ints, stays has c.in-Some.axis c.in-Some.ensures one, c.axes.invariant.same);
          })
    ]
