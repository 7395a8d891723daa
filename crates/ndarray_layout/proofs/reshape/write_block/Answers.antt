use Rattle.std.proofs.Common.{◌≡◌, ◌+◌, ◌-◌, ◌∷◌, [], ap, arith, length, ◌∙◌, subst}
use Rattle.std.proofs.lemmas.List.{length-drop, length-take-le}
use Rattle.nd_base.proofs.Laws.AsRead.{length-as_read}
use Rattle.nd_base.proofs.Laws.Definitions.{as_read}
use Rattle.ndarray_layout.specs.private.ReshapeProgress.{Writes, segment}
use Rattle.ndarray_layout.proofs.matching.Blocks.{part-all, part-first, part-more, segment-push}
use Rattle.ndarray_layout.proofs.reshape.write_block.Goals as goal

pub loop-axis-init : goal.loop-axis-init
loop-axis-init c =
    let ahead = c.requires.ahead in
    let at : length c.args.out.now - (c.args.end - 1 + 1) ≡ length c.args.both.now.to.now - c.args.end = omega (arith, c.requires.room) in
    record {
      low = ahead;
      high = omega arith;
      room = c.write.ensures.room ∙ c.requires.room;
      part = part-first (omega arith) c.requires.fits (subst (λ n. Writes n (c.args.stride ∷ [])
          (as_read c.args.both.now.order c.args.out.now) (as_read c.args.both.now.order c.write.new.out)) at c.write.ensures.written);
    }

pub loop-axis-preserved : goal.loop-axis-preserved
loop-axis-preserved c =
    let lens = as_read c.args.both.now.order c.args.both.now.to.now in
    let v = c.loop-axis.invariant in
    let axis = c.loop-axis.axis in
    let low = c.loop-axis-test.true in
    let high = v.high in
    let next : axis ≡ axis - 1 + 1 = omega arith in
    record {
      low = omega arith;
      high = omega arith;
      room = c.write-in-loop-axis.ensures.room ∙ v.room;
      part = part-more v.part (ap (λ n. segment c.args.start n lens) next
          ∙ segment-push c.args.start (axis - 1) lens (omega arith) c.item-stride.ensures)
          (omega (arith, c.loop-axis.auto.stride-fits), c.item-stride.type_inv) (omega arith) (omega (arith, v.room, c.requires.within))
          c.write-in-loop-axis.ensures.written;
    }

pub returns-clause-written : goal.returns-clause-written
returns-clause-written c =
    let lens = as_read c.args.both.now.order c.args.both.now.to.now in
    let v = c.loop-axis.invariant in
    let axis = c.loop-axis.axis in
    let low = v.low in
    let high = v.high in
    let last = c.loop-axis-test.false in
    let left = length-drop c.args.start lens in
    let count = length-as_read c.args.both.now.order c.args.both.now.to.now in
    part-all v.part (length-take-le (axis - c.args.start) _ (omega (arith, c.requires.within)) ∙ omega arith)
