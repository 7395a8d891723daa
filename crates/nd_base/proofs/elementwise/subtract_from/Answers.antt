-- What the loop reads is what the lists had, and each turn combines one more item.
use Rattle.std.proofs.Common.{◌-◌, ◌≤◌, arith}
use Rattle.std.proofs.lemmas.List.Elements.{length_all_zip}
use Rattle.nd_base.proofs.Laws.ElementwiseLoop.{combined_read, combined_more, combined_all}
use Rattle.nd_base.proofs.elementwise.subtract_from.Goals as goal

pub overflow_sub-lens : goal.overflow_sub-lens
overflow_sub-lens c =
    combined_read (λ x y. y ≤ x) (λ x y. x - y) _ _ _ _
    c.requires c.loop-axis.invariant c.loop-axis-test.true

pub loop-axis-preserved : goal.loop-axis-preserved
loop-axis-preserved c =
    combined_more (λ x y. x - y) _ _ _ _ (length_all_zip (λ x y. y ≤ x) _ _ c.requires)
    c.loop-axis.invariant c.loop-axis-test.true

pub returns : goal.returns
returns c =
    combined_all (λ x y. x - y) _ _ _ _ (length_all_zip (λ x y. y ≤ x) _ _ c.requires)
    c.loop-axis.invariant (omega arith)
