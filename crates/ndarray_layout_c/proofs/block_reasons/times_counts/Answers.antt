use Rattle.std.proofs.Common.{◌≡◌, ◌<◌, ℕ, List, length, get_or, sym, ◌∙◌, arith}
use Rattle.ndarray_layout_c.specs.BlockReasons.{taken_count, taken_counts}
use Rattle.ndarray_layout_c.proofs.BlockCounts.{each_at, length_of_each}
use Rattle.ndarray_layout_c.proofs.Products.{ends, next, part}
use Rattle.ndarray_layout_c.proofs.block_reasons.times_counts.Goals as goal
use Rattle.ndarray_layout_c.proofs.block_reasons.times_counts.Goals.{After-taken_count}

abbrev counts : After-taken_count → List ℕ
counts c = taken_counts c.args.blocks c.args.shape.now c.args.block.now

there : (c : After-taken_count) → c.loop-axis.axis < length (counts c)
there c =
    omega (arith, c.loop-axis-test.true, length_of_each (taken_count c.args.blocks) c.args.shape.now c.args.block.now c.requires.same_count)

read : (c : After-taken_count) → c.taken_count.result ≡ get_or (counts c) c.loop-axis.axis 0
read c =
    c.taken_count.ensures
    ∙ sym (each_at (taken_count c.args.blocks) c.args.shape.now c.args.block.now c.loop-axis.axis c.requires.same_count
    c.loop-axis-test.true)

pub returns-in_err-product : goal.returns-in_err-product
returns-in_err-product c =
    let at = (goal.at.returns-in_err-product c).After-taken_count in
    let within = part c.args.number (counts at) c.loop-axis.axis c.loop-axis.product c.taken_count.result c.loop-axis.invariant
    (there at) (read at) in
    rw c.from_residual.ensures (λ small. c.in_err-product.ensures (omega (arith, within, small)))

pub loop-axis-preserved : goal.loop-axis-preserved
loop-axis-preserved c =
    let at = (goal.at.loop-axis-preserved c).After-taken_count in
    let known = c.in_ok-product.ensures in
    next c.args.number (counts at) c.loop-axis.axis c.loop-axis.product c.taken_count.result c.loop-axis.invariant (there at) (read at)
    c.in_ok-product.product known.1 (omega (arith, known))

pub returns : goal.returns
returns c =
    let list = taken_counts c.args.blocks c.args.shape.now c.args.block.now in
    let count = length_of_each (taken_count c.args.blocks) c.args.shape.now c.args.block.now c.requires.same_count in
    let whole = ends c.args.number list c.loop-axis.axis c.loop-axis.product c.loop-axis.invariant
    (omega (arith, count, c.loop-axis-test.false)) in
    (omega (arith, whole, c.loop-axis.invariant.fits), whole)
