use Rattle.std.specs.Prelude.{IsTrue}
use Rattle.std.proofs.Common.{◌↔◌, true, inl, refl, sym, ap, ◌∙◌}
use Rattle.nd_base.specs.declared.order.Order.TheVariants.{ColumnMajor}
use Rattle.nd_base.proofs.Laws.Definitions.{all_signed, is_empty}
use Rattle.nd_shape.specs.MajorOrder.{SatisfiesOrderRule}
use Rattle.nd_shape.proofs.OrderRule.{lies_by_rule}
use Rattle.nd_shape.proofs.major_order.is_layout_f.Goals as goal

pub returns-then-contains : goal.returns-then-contains
returns-then-contains g c =
    let lens = g.D.Lengths.list c.args.dim.now in
    let strides = g.D.Lengths.list c.args.strides.now in
    let count = c.requires.same_count in
    let none = ap is_empty (sym c.slice.ensures.list) ∙ sym c.contains.ensures.value ∙ c.if-contains.true in
    let rule : IsTrue true ↔ SatisfiesOrderRule ColumnMajor lens (all_signed strides) = (λ t. inl none, λ r. refl) in
    record { places = lies_by_rule ColumnMajor lens strides count rule; rule = rule }

pub returns : goal.returns
returns g c =
    let lens = g.D.Lengths.list c.args.dim.now in
    let strides = g.D.Lengths.list c.args.strides.now in
    let count = c.requires.same_count in
    let rule = rw (c.slice-2.ensures.list, c.slice-3.ensures.list) at c.has_strides.ensures in
    record { places = lies_by_rule ColumnMajor lens strides count rule; rule = rule }
