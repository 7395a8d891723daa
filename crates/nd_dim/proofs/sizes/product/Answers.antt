use Rattle.std.proofs.Common.{◌≡◌, ◌<◌, ◌≤◌, ◌+◌, ◌*◌, drop, sym, arith, ◌∙◌, get_or, mul_assoc, le-mul_of_pos_right}
use Rattle.nd_base.specs.Size.{size}
use Rattle.nd_base.proofs.Laws.Size.{size_of_empty, size_of_nonempty, drop_nonempty, size_from}
use Rattle.nd_dim.proofs.sizes.product.Goals as goal

pub returns-then-contains : goal.returns-then-contains
returns-then-contains c = sym (size_of_empty c.args.lens.now (sym c.contains.ensures.value ∙ c.if-contains.true))

pub overflow_mul-size : goal.overflow_mul-size
overflow_mul-size c =
    let i = c.loop-len.len-index in
    let lens = c.args.lens.now in
    let from = size_from lens i (omega arith) in
    let rest : 0 < size (drop (i + 1) lens) =
    size_of_nonempty _ (drop_nonempty lens (i + 1) (sym c.contains.ensures.value ∙ c.if-contains.false)) in
    let whole : (c.loop-len.size * get_or lens i 0) * size (drop (i + 1) lens) ≡ size lens = rw (mul_assoc, ← from) c.loop-len.invariant in
    let part : c.loop-len.size * get_or lens i 0 ≤ (c.loop-len.size * get_or lens i 0) * size (drop (i + 1) lens) =
    le-mul_of_pos_right _ rest in
    omega (arith, c.requires, whole, part)
