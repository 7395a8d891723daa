use Rattle.std.proofs.Common.{arith, sym, ◌∙◌, below_more}
use Rattle.std.proofs.lemmas.Bool.{not_from_true, not_from_false, not-true, not-false}
use Rattle.nd_base.specs.Signed.{all_signed}
use Rattle.nd_shape.specs.NoAlias.{satisfies_no_alias_rule, strides_over_others}
use Rattle.nd_shape.proofs.Laws.NoAlias.{rule_satisfied, rule_broken}
use Rattle.nd_shape.proofs.no_alias.some_overlaps_others.Goals as goal

pub returns : goal.returns
returns c =
    let shape = c.args.shape.now in
    let strides = all_signed c.args.strides.now in
    let holds = rule_satisfied shape strides (λ axis below. c.loop-axis.invariant axis (omega arith)) in
    sym (not_from_true (satisfies_no_alias_rule shape strides) holds)

pub returns-then-overlaps_others : goal.returns-then-overlaps_others
returns-then-overlaps_others c =
    let shape = c.args.shape.now in
    let strides = all_signed c.args.strides.now in
    let broken = not-true (strides_over_others shape strides c.loop-axis.axis)
    (sym c.overlaps_others.ensures ∙ c.if-overlaps_others.true) in
    let rule = rule_broken shape strides c.loop-axis.axis (omega arith) broken in
    sym (not_from_false (satisfies_no_alias_rule shape strides) rule)

pub loop-axis-preserved : goal.loop-axis-preserved
loop-axis-preserved c =
    below_more _ _ c.loop-axis.invariant
    (not-false (strides_over_others c.args.shape.now (all_signed c.args.strides.now) c.loop-axis.axis)
    (sym c.overlaps_others.ensures ∙ c.if-overlaps_others.false))
