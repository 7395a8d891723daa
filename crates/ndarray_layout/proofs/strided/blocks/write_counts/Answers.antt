use Rattle.std.proofs.Common.{◌≡◌, ◌≢◌, ◌<◌, length, take, sym, ap, ◌∙◌, arith, below_more, get_or-set_other, get_or-set_same}
use Rattle.std.proofs.Math.ListN.{length-set}
use Rattle.ndarray_layout.specs.private.Blocks.{block_counts}
use Rattle.ndarray_layout.proofs.BlocksWritten.{first_items, get_or-block_counts, length-block_counts}
use Rattle.ndarray_layout.proofs.strided.blocks.write_counts.Goals as goal

pub loop-axis-preserved : goal.loop-axis-preserved
loop-axis-preserved c =
    let axis = c.loop-axis.axis in
    let new = c.loop-axis.new_shape in
    record {
      room = omega (arith, length-set new axis c.count.result, c.loop-axis.invariant.room);
      written = below_more _ _ (λ k h. let ne : k ≢ axis = omega arith in rw get_or-set_other (c.loop-axis.invariant.written k h))
          (let lt : axis < length new = omega (arith, c.loop-axis.invariant.room, c.loop-axis-test.true) in rw get_or-set_same
          (c.count.ensures ∙ sym (get_or-block_counts c.args.blocks c.args.shape.now c.args.block.now axis (sym c.requires.counts)
          c.loop-axis-test.true)));
    }

pub returns : goal.returns
returns c =
    let new = c.loop-axis.new_shape in
    let counts = block_counts c.args.blocks c.args.shape.now c.args.block.now in
    let long : length counts ≡ length c.args.shape.now =
    length-block_counts c.args.blocks c.args.shape.now c.args.block.now (sym c.requires.counts) in
    ap (λ n. take n new) (sym long)
    ∙ first_items 0 new counts (omega (arith, long, c.loop-axis.invariant.room))
    (λ k h. c.loop-axis.invariant.written k (omega (arith, h, long, c.loop-axis-test.false)))
