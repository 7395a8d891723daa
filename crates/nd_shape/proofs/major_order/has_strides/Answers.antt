use Rattle.std.proofs.Common.{◌≡◌, ◌≢◌, ◌+◌, ◌*◌, inr, take, get_or, Fits, w64, arith, sym, ap₂, ◌∙◌, refl, below_more}
use Rattle.nd_base.specs.declared.order.Order.TheVariants.{ColumnMajor}
use Rattle.nd_base.proofs.Laws.Definitions.{all_signed, size}
use Rattle.nd_dim.specs.Strides.{size_until}
use Rattle.nd_dim.proofs.Laws.Strides.{fortran_at}
use Rattle.nd_base.proofs.Laws.NonzeroSize.{size_le_nonzero_size}
use Rattle.nd_base.proofs.Laws.Size.{size_take_le, size_take_more}
use Rattle.nd_shape.specs.MajorOrder.{SatisfiesOrderRule}
use Rattle.nd_shape.proofs.OrderRule.{axis_by_rule, rule_by_axes}
use Rattle.nd_shape.proofs.major_order.has_strides.Given.{Over}
use Rattle.nd_shape.proofs.major_order.has_strides.Goals as goal
use Rattle.nd_shape.proofs.major_order.has_strides.Goals.{After-item-len}
use Rattle.nd_shape.proofs.major_order.has_strides.Goals.{else-len-ne1-via-then-len-ne1+else-item-size}
use Rattle.nd_shape.proofs.major_order.has_strides.Goals.{else-len-ne1-via-else-len-ne1}

-- the product with the length
next_is : (g : Over) (c : After-item-len g)
    → c.loop-k.size * c.item-len.result ≡ size_until (g.S.Sequence.items c.args.lens.now) (c.loop-k.k + 1)
next_is g c =
    ap₂ (λ a b. a * b) c.loop-k.invariant.product c.item-len.ensures
    ∙ sym (size_take_more (g.S.Sequence.items c.args.lens.now) c.loop-k.k (omega arith))

pub overflow_mul-size : goal.overflow_mul-size
overflow_mul-size g c =
    let lens = g.S.Sequence.items c.args.lens.now in
    let k = c.loop-k.k in
    let less = size_take_le lens (k + 1) c.requires.some in
    let fits : Fits w64 (size (take (k + 1) lens)) = omega (arith, size_le_nonzero_size lens) in
    rw (next_is g (goal.at.overflow_mul-size g c).After-item-len) fits

pub loop-k-preserved : goal.loop-k-preserved
loop-k-preserved g c =
    let lens = g.S.Sequence.items c.args.lens.now in
    let strides = g.S.Sequence.items c.args.strides.now in
    let k = c.loop-k.k in
    let here : get_or lens k 0 ≢ 1 → get_or strides k 0 ≡ size_until lens k =
    elim c.else-len-ne1.branch [
      | else-len-ne1-via-then-len-ne1+else-item-size w ↦
          λ ne. sym w.item.ensures ∙ w.if-item-size.false ∙ c.loop-k.invariant.product
      | else-len-ne1-via-else-len-ne1 w ↦ λ ne. absurd (ne (sym c.item-len.ensures ∙ w.if-len-ne1.false))
    ] in
    record {
      product = next_is g (goal.at.loop-k-preserved g c).After-item-len;
      same = below_more (λ i. get_or lens i 0 ≢ 1 → get_or strides i 0 ≡ size_until lens i) k c.loop-k.invariant.same here;
    }

pub returns-then-item-size : goal.returns-then-item-size
returns-then-item-size g c =
    let lens = g.S.Sequence.items c.args.lens.now in
    let strides = g.S.Sequence.items c.args.strides.now in
    let k = c.loop-k.k in
    let fits : Fits w64 (get_or strides k 0) = omega (arith, c.item.ensures, c.item.type_inv) in
    let standard : SatisfiesOrderRule ColumnMajor lens (all_signed strides) → get_or strides k 0 ≡ c.loop-k.size =
    λ rule. axis_by_rule ColumnMajor lens strides c.requires.same_count k fits c.requires.some rule (omega arith)
    (λ e. c.if-len-ne1.true (c.item-len.ensures ∙ e))
    ∙ fortran_at lens k c.requires.some (omega arith)
    ∙ sym c.loop-k.invariant.product in
    (λ t. absurd (cc), λ rule. absurd (c.if-item-size.true (c.item.ensures ∙ standard rule)))

pub returns : goal.returns
returns g c =
    let lens = g.S.Sequence.items c.args.lens.now in
    let strides = g.S.Sequence.items c.args.strides.now in
    let rule = rule_by_axes ColumnMajor lens strides c.requires.same_count c.requires.size_fits
    (λ k h ne. c.loop-k.invariant.same k (omega arith) ne ∙ sym (fortran_at lens k c.requires.some h)) in
    (λ t. inr rule, λ e. refl)
