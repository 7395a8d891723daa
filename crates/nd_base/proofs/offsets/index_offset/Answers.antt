use Rattle.std.proofs.Common.{◌+◌, get_or, to_z, w64, arith}
use Rattle.std.proofs.lemmas.Int.{ints, to_z-of_z}
use Rattle.nd_base.proofs.Laws.Definitions.{signed}
use Rattle.nd_base.proofs.IndexOffsets.{IsNextPart, added, coordinate_offset, offset_from_step, offset_from_end}
use Rattle.nd_base.proofs.Laws.Span.{sum_from, sum_from_step}
use Rattle.nd_base.proofs.offsets.index_offset.Goals as goal
use Rattle.nd_base.proofs.offsets.index_offset.Goals.{In-loop-axis}

-- this coordinate's offset, which fits beside what came before and what comes after
next : (c : In-loop-axis)
    → IsNextPart (to_z w64 c.loop-axis.offset-bits) (get_or c.args.index.now c.loop-axis.axis 0)
    (signed (get_or c.args.strides.now c.loop-axis.axis 0))
    (sum_from coordinate_offset c.args.index.now c.args.strides.now (c.loop-axis.axis + 1))
    (sum_from coordinate_offset c.args.index.now c.args.strides.now c.loop-axis.axis)
next c =
    let split = sum_from_step coordinate_offset c.args.index.now c.args.strides.now c.loop-axis.axis (omega arith) (omega arith) in
    record { far = omega (arith, split); low = c.loop-axis.invariant.low; high = c.loop-axis.invariant.high }

pub offset_along-offset-requires : goal.offset_along-offset-requires
offset_along-offset-requires c =
    let sum = added (next (goal.at.offset_along-offset-requires c).In-loop-axis) in
    record { small = c.requires.small c.loop-axis.axis 0 (omega arith); part = sum.part; whole = sum.whole }

pub loop-axis-preserved : goal.loop-axis-preserved
loop-axis-preserved c =
    let sum = added (next (goal.at.loop-axis-preserved c).In-loop-axis) in
    let step = offset_from_step c.args.strides.now c.args.index.now c.loop-axis.axis (omega arith) (omega arith) in
    rw (c.offset_along-offset.ensures, to_z-of_z w64 _ sum.whole) (record {
      sum = omega (arith, ints, step, c.loop-axis.invariant.sum);
      low = sum.low;
      high = sum.high;
    })

pub returns : goal.returns
returns c =
    let end = offset_from_end c.args.strides.now c.args.index.now c.loop-axis.axis (omega arith) in
    omega (arith, ints, end, c.loop-axis.invariant.sum)
