use Rattle.std.proofs.Common.{refl, sym, ◌≡◌, ◌+◌, get_or, true, to_z, w64, arith, ap, below_more}
use Rattle.std.specs.Prelude.{Some}
use Rattle.std.proofs.lemmas.Int.{ints, to_z-of_z}
use Rattle.std.proofs.lemmas.List.{length-map}
use Rattle.nd_base.proofs.Laws.Definitions.{is_index, offset_of, all_signed, signed, reach}
use Rattle.nd_base.proofs.IndexOffsets.{IsNextPart, added, is_index_of_count, is_index_of_coordinate, coordinate_offset_le}
use Rattle.nd_base.proofs.IndexOffsets.{offset_from_step, offset_from_end}
use Rattle.nd_base.proofs.Laws.IsIndex.{is_index_from_coordinates}
use Rattle.nd_base.proofs.Laws.NonzeroSize.{length_le_nonzero_size}
use Rattle.nd_base.proofs.Laws.Span.{sum_from, sum_from_step}
use Rattle.nd_base.proofs.offsets.stride_offset_checked.Goals as goal
use Rattle.nd_base.proofs.offsets.stride_offset_checked.Goals.{Else-index-axis}

pub returns-then-dim-index : goal.returns-then-dim-index
returns-then-dim-index c =
    let none = is_index_of_count c.args.dim.now c.args.index.now c.if-dim-index.true in
    rw none refl

pub returns-then-index-axis : goal.returns-then-index-axis
returns-then-index-axis c =
    let none = is_index_of_coordinate c.args.dim.now c.args.index.now c.loop-axis.axis (omega arith) c.if-index-axis.true in
    rw none refl

-- this coordinate's offset, which fits beside what came before and what can come after
next : (c : Else-index-axis)
    → IsNextPart (to_z w64 c.loop-axis.offset-bits) (get_or c.args.index.now c.loop-axis.axis 0)
    (signed (get_or c.args.strides.now c.loop-axis.axis 0))
    (sum_from reach c.args.dim.now c.args.strides.now (c.loop-axis.axis + 1))
    (sum_from reach c.args.dim.now c.args.strides.now c.loop-axis.axis)
next c =
    let split = sum_from_step reach c.args.dim.now c.args.strides.now c.loop-axis.axis (omega arith) (omega arith) in
    let own = coordinate_offset_le (get_or c.args.dim.now c.loop-axis.axis 0) (get_or c.args.index.now c.loop-axis.axis 0)
    (signed (get_or c.args.strides.now c.loop-axis.axis 0)) c.if-index-axis.false in
    record { far = omega (arith, split, own); low = c.loop-axis.invariant.low; high = c.loop-axis.invariant.high }

pub offset_along-offset-requires : goal.offset_along-offset-requires
offset_along-offset-requires c =
    let sum = added (next (goal.at.offset_along-offset-requires c).Else-index-axis) in
    record {
      small = omega (arith, length_le_nonzero_size c.args.dim.now c.loop-axis.axis, c.requires.size_fits, c.if-index-axis.false);
      part = sum.part;
      whole = sum.whole;
    }

pub loop-axis-preserved : goal.loop-axis-preserved
loop-axis-preserved c =
    let at = (goal.at.loop-axis-preserved c).Else-index-axis in
    let sum = added (next at) in
    let step = offset_from_step c.args.strides.now c.args.index.now c.loop-axis.axis
    (omega (arith, c.if-dim-index.false)) (omega arith) in
    rw (c.offset_along-offset.ensures, to_z-of_z w64 _ sum.whole) (record {
      in_bounds = below_more _ _ c.loop-axis.invariant.in_bounds c.if-index-axis.false;
      sum = omega (arith, ints, step, c.loop-axis.invariant.sum);
      low = sum.low;
      high = sum.high;
    })

pub returns : goal.returns
returns c =
    let shape = c.args.dim.now in
    let index = c.args.index.now in
    let strides = length-map c.args.strides.now signed in
    let here : is_index shape index ≡ true =
    is_index_from_coordinates shape index (sym c.if-dim-index.false)
    (λ axis l. c.loop-axis.invariant.in_bounds axis (omega (arith, c.loop-axis-test.false, c.requires.same_count, strides))) in
    let end = offset_from_end c.args.strides.now index c.loop-axis.axis
    (omega (arith, c.loop-axis-test.false, c.if-dim-index.false, c.requires.same_count, strides)) in
    let whole : to_z w64 c.loop-axis.offset-bits ≡ offset_of (all_signed c.args.strides.now) index =
    omega (arith, ints, end, c.loop-axis.invariant.sum) in
    rw here (ap Some whole)
