use Rattle.std.proofs.Common.{get_or, refl, arith}
use Rattle.ndarray_layout_c.proofs.Products.{next, part}
use Rattle.ndarray_layout_c.proofs.sizes.times_lengths.Goals as goal

pub returns-in_err-product : goal.returns-in_err-product
returns-in_err-product c =
    let i = c.loop-len.len-index in
    let within = part c.args.number c.args.lens.now i c.loop-len.product (get_or c.args.lens.now i 0) c.loop-len.invariant
    c.loop-len-test.true refl in
    rw c.from_residual.ensures (λ small. c.in_err-product.ensures (omega (arith, within, small)))

pub loop-len-preserved : goal.loop-len-preserved
loop-len-preserved c =
    let i = c.loop-len.len-index in
    let known = c.in_ok-product.ensures in
    next c.args.number c.args.lens.now i c.loop-len.product (get_or c.args.lens.now i 0) c.loop-len.invariant c.loop-len-test.true refl
    c.in_ok-product.product known.1 (omega (arith, known))
