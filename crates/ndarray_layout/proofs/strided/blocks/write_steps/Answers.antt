use Rattle.std.proofs.Common.{◌≡◌, ◌≢◌, ◌<◌, pos, length, get_or, take, sym, ap, ◌∙◌, arith, below_more, get_or-set_other}
use Rattle.std.proofs.Common.{get_or-set_same}
use Rattle.std.proofs.Math.ListN.{length-set}
use Rattle.std.proofs.lemmas.List.{get_or-map, length-map}
use Rattle.nd_base.proofs.Laws.Definitions.{all_signed, signed}
use Rattle.nd_base.proofs.Laws.NonzeroSize.{length_le_nonzero_size}
use Rattle.nd_base.proofs.Laws.Span.{reach_le_span}
use Rattle.ndarray_layout.specs.private.Blocks.{block_strides}
use Rattle.ndarray_layout.proofs.BlocksWritten.{first_items, get_or-block_strides, length-block_strides}
use Rattle.ndarray_layout.proofs.strided.blocks.write_steps.Goals as goal
use Rattle.ndarray_layout.proofs.strided.blocks.write_steps.Goals.{In-loop-axis}

-- the stride of this axis
own : (c : In-loop-axis) → get_or (all_signed c.args.strides.now) c.loop-axis.axis (pos 0)
    ≡ signed (get_or c.args.strides.now c.loop-axis.axis 0)
own c = get_or-map signed c.args.strides.now c.loop-axis.axis 0 (pos 0)
    (omega (arith, c.loop-axis-test.true, c.requires.valid.same_count, length-map c.args.strides.now signed))

pub stride-requires-clause-len_fits : goal.stride-requires-clause-len_fits
stride-requires-clause-len_fits c =
    omega (arith, length_le_nonzero_size c.args.shape.now c.loop-axis.axis, c.requires.valid.size_fits)

pub stride-requires-clause-span_fits : goal.stride-requires-clause-span_fits
stride-requires-clause-span_fits c =
    let at = (goal.at.stride-requires-clause-span_fits c).In-loop-axis in
    let far = rw (own at) at (reach_le_span c.args.shape.now (all_signed c.args.strides.now) c.loop-axis.axis c.loop-axis-test.true
    c.requires.valid.same_count) in
    omega (arith, far, c.requires.valid.span_fits)

pub loop-axis-preserved : goal.loop-axis-preserved
loop-axis-preserved c =
    let axis = c.loop-axis.axis in
    let new = c.loop-axis.new_strides in
    let at = (goal.at.loop-axis-preserved c).In-loop-axis in
    let here = rw (own at) at (get_or-block_strides c.args.blocks c.args.shape.now c.args.block.now (all_signed c.args.strides.now) axis
    (record { block_count = sym c.requires.counts; stride_count = c.requires.valid.same_count }) c.loop-axis-test.true) in
    record {
      room = omega (arith, length-set new axis c.stride.result, c.loop-axis.invariant.room);
      written = below_more _ _ (λ k h. let ne : k ≢ axis = omega arith in rw get_or-set_other (c.loop-axis.invariant.written k h))
          (let lt : axis < length new = omega (arith, c.loop-axis.invariant.room, c.loop-axis-test.true) in rw get_or-set_same
          (c.stride.ensures ∙ sym here));
    }

pub returns : goal.returns
returns c =
    let n = length c.args.shape.now in
    let new = c.loop-axis.new_strides in
    let along = block_strides c.args.blocks c.args.shape.now c.args.block.now (all_signed c.args.strides.now) in
    let long : length along ≡ n = length-block_strides c.args.blocks c.args.shape.now c.args.block.now (all_signed c.args.strides.now)
    (record { block_count = sym c.requires.counts; stride_count = c.requires.valid.same_count }) in
    ap (λ m. take m (all_signed new)) (sym long)
    ∙ first_items (pos 0) (all_signed new) along (omega (arith, long, c.loop-axis.invariant.room, length-map new signed))
    (λ k h. get_or-map signed new k 0 (pos 0) (omega (arith, h, long, c.loop-axis.invariant.room))
    ∙ c.loop-axis.invariant.written k (omega (arith, h, long, c.loop-axis-test.false)))
