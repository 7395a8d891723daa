use Rattle.std.proofs.Common.{rules, ◌≡◌, w64, arith, ap, sym, ◌∙◌}
use Rattle.std.specs.Prelude.{unsigned_abs, FitsSigned, remove}
use Rattle.std.proofs.lemmas.Int.{to_z-of_z}
use Rattle.nd_base.proofs.Laws.Definitions.{all_signed}
use Rattle.nd_dim.specs.StrideOrder.{magnitude_at}
use Rattle.nd_shape.specs.NoAlias.{span_up_to, span_of_others}
use Rattle.nd_shape.proofs.NoAliasTest.{signed_at, long_axis}
use Rattle.nd_shape.proofs.no_alias.overlaps_others.Goals as goal
use Rattle.nd_shape.proofs.no_alias.overlaps_others.Goals.{After-unsigned_abs-magnitude}

-- what the code computes, in the words of the rule
magnitude_is : (c : After-unsigned_abs-magnitude)
    → c.unsigned_abs-magnitude.result ≡ magnitude_at (all_signed c.args.strides.now) c.args.axis
magnitude_is c =
    let fits : FitsSigned w64 c.signed.result = search rules in
    let at = signed_at c.args.strides.now c.args.axis (omega (arith, c.requires.axis, c.requires.same_count)) in
    c.unsigned_abs-magnitude.ensures.value
    ∙ ap unsigned_abs (to_z-of_z w64 c.signed.result fits ∙ c.signed.ensures.same_bits ∙ sym at)

pub returns-then-shape-axis-gt1 : goal.returns-then-shape-axis-gt1
returns-then-shape-axis-gt1 c =
    let at = (goal.at.returns-then-shape-axis-gt1 c).After-unsigned_abs-magnitude in
    let shape = c.args.shape.now in
    let strides = all_signed c.args.strides.now in
    let others : c.span_of_others.result ≡ span_of_others shape strides c.args.axis =
    c.span_of_others.ensures ∙ ap (λ m. span_up_to m (remove shape c.args.axis) (remove strides c.args.axis)) (magnitude_is at) in
    rw (magnitude_is at, others) (sym (long_axis shape strides c.args.axis c.if-shape-axis-gt1.true))
