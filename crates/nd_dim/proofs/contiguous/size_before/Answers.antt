use Rattle.std.proofs.Common.{◌+◌, ◌*◌, drop, get_or, arith, sym, ◌∙◌, ℕ}
use Rattle.nd_base.proofs.Laws.Definitions.{all_signed, limit}
use Rattle.nd_dim.specs.StrideOrder.{comes_before}
use Rattle.nd_dim.proofs.Packed.{chosen_taken, chosen_left}
use Rattle.nd_dim.proofs.Products.{room_taken, room_left, within_room}
use Rattle.nd_dim.proofs.contiguous.size_before.Goals as goal
use Rattle.nd_dim.proofs.contiguous.size_before.Goals.{then-comes_before, else-comes_before}

pub overflow_mul-size : goal.overflow_mul-size
overflow_mul-size c =
    let lens = c.args.lens.now in
    let i = c.loop-other.other in
    let room = room_taken lens i c.loop-other.size limit (omega arith) c.loop-other.invariant.room in
    let within = within_room (drop (i + 1) lens) (c.loop-other.size * get_or lens i 0) limit room in
    omega arith

pub loop-other-preserved : goal.loop-other-preserved
loop-other-preserved c =
    let lens = c.args.lens.now in
    let i = c.loop-other.other in
    let p = λ (other : ℕ). comes_before (all_signed c.args.strides.now) other c.args.axis in
    elim c.if-comes_before.branch [
      | then-comes_before w ↦ rw w.size-is (record {
        product = chosen_taken p lens i c.loop-other.size (sym c.comes_before.ensures ∙ w.if-comes_before.true)
            c.loop-other.invariant.product;
        room = room_taken lens i c.loop-other.size limit c.loop-other-test.true c.loop-other.invariant.room;
      })
      | else-comes_before w ↦ rw w.size-is (record {
        product = chosen_left p lens i c.loop-other.size (sym c.comes_before.ensures ∙ w.if-comes_before.false)
            c.loop-other.invariant.product;
        room = room_left lens i c.loop-other.size limit c.loop-other-test.true c.loop-other.invariant.room;
      })
    ]
