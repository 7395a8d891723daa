use Rattle.std.proofs.Common.{◌≡◌, ◌<◌, ◌≤◌, ◌+◌, ◌*◌, ◌^◌, drop, sym, arith, ◌∙◌, get_or, mul_assoc, le-mul_of_pos_right}
use Rattle.std.proofs.Common.{drop_of_length-le, mul-one, subst}
use Rattle.nd_base.specs.Size.{size}
use Rattle.nd_base.proofs.Laws.Size.{size_of_empty, size_of_nonempty, drop_nonempty, size_from}
use Rattle.nd_dim.proofs.sizes.checked_size.Goals as goal

pub returns-then-contains : goal.returns-then-contains
returns-then-contains c =
    let none = size_of_empty c.args.lens.now (sym c.contains.ensures.value ∙ c.if-contains.true) in
    (omega arith, sym none)

pub loop-len-preserved : goal.loop-len-preserved
loop-len-preserved c =
    let i = c.loop-len.len-index in
    let from = size_from c.args.lens.now i (omega arith) in
    let known = c.in_ok-size.ensures in
    record {
      fits = omega (arith, known);
      product = rw (known.1, mul_assoc, ← from) c.loop-len.invariant.product;
    }

pub returns-in_err-size : goal.returns-in_err-size
returns-in_err-size c =
    let i = c.loop-len.len-index in
    let lens = c.args.lens.now in
    let from = size_from lens i (omega arith) in
    let rest : 0 < size (drop (i + 1) lens) =
    size_of_nonempty _ (drop_nonempty lens (i + 1) (sym c.contains.ensures.value ∙ c.if-contains.false)) in
    let whole : (c.loop-len.size * get_or lens i 0) * size (drop (i + 1) lens) ≡ size lens =
    rw (mul_assoc, ← from) c.loop-len.invariant.product in
    let part : c.loop-len.size * get_or lens i 0 ≤ (c.loop-len.size * get_or lens i 0) * size (drop (i + 1) lens) =
    le-mul_of_pos_right _ rest in
    rw c.from_residual.ensures (λ small. c.in_err-size.ensures (omega arith))

pub returns : goal.returns
returns c =
    let lens = c.args.lens.now in
    let end = drop_of_length-le lens c.loop-len-test.false in
    let whole = sym (mul-one c.loop-len.size) ∙ (rw end at c.loop-len.invariant.product) in
    (subst (λ n. n < 2 ^ 64) whole c.loop-len.invariant.fits, whole)
