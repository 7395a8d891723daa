use Rattle.std.specs.Prelude.{IsTrue}
use Rattle.std.proofs.Common.{◌↔◌, true, inl, refl, sym, ap, ◌∙◌, arith}
use Rattle.nd_base.specs.declared.order.Order.TheVariants.{RowMajor}
use Rattle.nd_base.proofs.Laws.Definitions.{all_signed, is_empty, nonzero_size}
use Rattle.nd_base.proofs.Laws.NonzeroSize.{nonzero_size-reverse}
use Rattle.nd_base.proofs.Laws.Size.{is_empty-reverse}
use Rattle.nd_shape.specs.MajorOrder.{SatisfiesOrderRule}
use Rattle.nd_shape.proofs.OrderRule.{lies_by_rule, rule_back}
use Rattle.nd_shape.proofs.major_order.is_layout_c.Goals as goal

pub returns-then-contains : goal.returns-then-contains
returns-then-contains g c =
    let lens = g.D.Lengths.list c.args.dim.now in
    let strides = g.D.Lengths.list c.args.strides.now in
    let count = c.requires.same_count in
    let none = ap is_empty (sym c.slice.ensures.list) ∙ sym c.contains.ensures.value ∙ c.if-contains.true in
    let rule : IsTrue true ↔ SatisfiesOrderRule RowMajor lens (all_signed strides) = (λ t. inl none, λ r. refl) in
    record { places = lies_by_rule RowMajor lens strides count rule; rule = rule }

pub has_strides-requires-clause-some : goal.has_strides-requires-clause-some
has_strides-requires-clause-some g c =
    is_empty-reverse c.slice-2.result.now
    ∙ ap is_empty (c.slice-2.ensures.list ∙ sym c.slice.ensures.list)
    ∙ sym c.contains.ensures.value
    ∙ c.if-contains.false

pub has_strides-requires-clause-size_fits : goal.has_strides-requires-clause-size_fits
has_strides-requires-clause-size_fits g c =
    omega (arith, nonzero_size-reverse c.slice-2.result.now, ap nonzero_size c.slice-2.ensures.list, c.requires.size_fits)

pub returns : goal.returns
returns g c =
    let lens = g.D.Lengths.list c.args.dim.now in
    let strides = g.D.Lengths.list c.args.strides.now in
    let count = c.requires.same_count in
    let back = rw (c.slice-2.ensures.list, c.slice-3.ensures.list) at c.has_strides.ensures in
    let turned = rule_back lens strides c.requires.same_count in
    let rule : IsTrue c.has_strides.result ↔ SatisfiesOrderRule RowMajor lens (all_signed strides) =
    (λ t. turned.0 (back.0 t), λ r. back.1 (turned.1 r)) in
    record { places = lies_by_rule RowMajor lens strides count rule; rule = rule }
