use Rattle.std.proofs.Common.{◌≡◌, ◌+◌, ◌*◌, ◌≤◌, arith, drop, get_or, sym, ◌∙◌, drop_of_length-le, mul_assoc, mul-one}
use Rattle.std.proofs.Common.{le-mul_of_pos_right}
use Rattle.nd_base.specs.Size.{nonzero_size}
use Rattle.nd_base.proofs.Laws.NonzeroSize.{nonzero_size_from_zero, nonzero_size_from_other, nonzero_size_pos}
use Rattle.nd_shape.proofs.size_limits.checked_nonzero_size.Goals as goal
use Rattle.nd_shape.proofs.size_limits.checked_nonzero_size.Goals.{then-len-ne0+in_ok-size, else-len-ne0}

pub returns : goal.returns
returns c =
    let shape = c.args.shape.now in
    let end = drop_of_length-le shape c.loop-len-test.false in
    let whole = sym (mul-one c.loop-len.size) ∙ (rw end at c.loop-len.invariant.product) in
    (omega arith, whole)

pub returns-in_err-size : goal.returns-in_err-size
returns-in_err-size c =
    let i = c.loop-len.len-index in
    let shape = c.args.shape.now in
    let from = nonzero_size_from_other shape i (omega arith) c.if-len-ne0.true in
    let whole : (c.loop-len.size * get_or shape i 0) * nonzero_size (drop (i + 1) shape) ≡ nonzero_size shape =
    rw (mul_assoc, ← from) c.loop-len.invariant.product in
    let part : c.loop-len.size * get_or shape i 0 ≤ (c.loop-len.size * get_or shape i 0) * nonzero_size (drop (i + 1) shape) =
    le-mul_of_pos_right _ (nonzero_size_pos (drop (i + 1) shape)) in
    rw c.from_residual.ensures (λ small. c.in_err-size.ensures (omega arith))

pub loop-len-preserved : goal.loop-len-preserved
loop-len-preserved c =
    let i = c.loop-len.len-index in
    let shape = c.args.shape.now in
    elim c.if-len-ne0.branch [
      | then-len-ne0+in_ok-size w ↦
          let from = nonzero_size_from_other shape i (omega arith) w.if-len-ne0.true in
          let known = w.in_ok-size.ensures in
          record {
            fits = omega (arith, known, w.size-is);
            product = rw (w.size-is, known.1, mul_assoc, ← from) c.loop-len.invariant.product;
          }
      | else-len-ne0 w ↦
          let from = nonzero_size_from_zero shape i (omega arith) w.if-len-ne0.false in
          record {
            fits = omega (arith, w.size-is);
            product = rw (w.size-is, ← from) c.loop-len.invariant.product;
          }
    ]
