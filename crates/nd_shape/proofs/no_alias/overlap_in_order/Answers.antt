use Rattle.std.proofs.Common.{reverse, sym, ap, ◌∙◌, arith}
use Rattle.std.proofs.lemmas.List.{length-map}
use Rattle.nd_base.proofs.Laws.Definitions.{all_signed, reach, signed, span}
use Rattle.nd_base.proofs.Laws.Lists.{map-reverse}
use Rattle.nd_base.proofs.Laws.Span.{sum_over_axes-reverse}
use Rattle.nd_shape.specs.NoAlias.{satisfies_no_alias_rule}
use Rattle.nd_shape.proofs.NoAliasTest.{no_alias_rule-reverse}
use Rattle.nd_shape.proofs.no_alias.overlap_in_order.Goals as goal

pub overlap_in_one_pass-requires-else-first-last-clause-span_fits : goal.overlap_in_one_pass-requires-else-first-last-clause-span_fits
overlap_in_one_pass-requires-else-first-last-clause-span_fits c =
    let shape = c.args.shape.now in
    let strides = all_signed c.args.strides.now in
    let back = ap (span (reverse shape)) (map-reverse signed c.args.strides.now) in
    let same = sum_over_axes-reverse reach shape strides (c.requires.same_count ∙ sym (length-map c.args.strides.now signed)) in
    omega (arith, back, same, c.requires.span_fits)

pub returns-else-first-last : goal.returns-else-first-last
returns-else-first-last c =
    let shape = c.args.shape.now in
    let strides = all_signed c.args.strides.now in
    let back = ap (satisfies_no_alias_rule (reverse shape)) (map-reverse signed c.args.strides.now) in
    let same = no_alias_rule-reverse shape strides (c.requires.same_count ∙ sym (length-map c.args.strides.now signed)) in
    rw (back ∙ same) at c.overlap_in_one_pass-else-first-last.ensures
