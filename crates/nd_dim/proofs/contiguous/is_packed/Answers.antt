use Rattle.std.proofs.Common.{◌≡◌, false, get_or, length, arith, sym, ◌∙◌}
use Rattle.std.proofs.lemmas.Bool.{both_ways, false_from_ne_true, or_from, ne_eqb}
use Rattle.nd_base.proofs.Laws.Below.{all_below, passes_below}
use Rattle.nd_base.proofs.Laws.Definitions.{all_signed, size}
use Rattle.nd_dim.specs.StrideOrder.{magnitude_at}
use Rattle.nd_dim.specs.Contiguous.{lens_before, is_packed_at}
use Rattle.nd_dim.proofs.contiguous.is_packed.Goals as goal

pub returns-then-magnitude_at-size_before : goal.returns-then-magnitude_at-size_before
returns-then-magnitude_at-size_before c =
    let lens = c.args.lens.now in
    let strides = all_signed c.args.strides.now in
    let k = c.loop-axis.axis in
    let fails : is_packed_at lens strides k ≡ false =
    or_from _ _ (ne_eqb (get_or lens k 0) 1 c.if-len-ne1.true)
    (ne_eqb (magnitude_at strides k) (size (lens_before lens strides k))
    (λ e. c.if-magnitude_at-size_before.true (c.magnitude_at.ensures ∙ e ∙ sym c.size_before.ensures))) in
    sym (false_from_ne_true _
    (λ all. both_ways _ fails (passes_below (is_packed_at lens strides) (length lens) all k c.loop-axis-test.true)))

pub returns : goal.returns
returns c =
    let lens = c.args.lens.now in
    let strides = all_signed c.args.strides.now in
    sym (all_below (is_packed_at lens strides) (length lens) (λ k h. c.loop-axis.invariant k (omega arith)))
