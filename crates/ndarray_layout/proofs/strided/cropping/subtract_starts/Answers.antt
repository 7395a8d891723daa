-- What the loop reads is what the lists had, and each turn subtracts one more start.
use Rattle.std.proofs.Common.{◌-◌, ◌≤◌, arith}
use Rattle.std.proofs.lemmas.List.Elements.{length_all_zip}
use Rattle.nd_base.proofs.Laws.ElementwiseLoop.{combined_all, combined_more, combined_read}
use Rattle.ndarray_layout.proofs.strided.cropping.subtract_starts.Goals as goal

pub overflow_sub-ends : goal.overflow_sub-ends
overflow_sub-ends c =
    combined_read (λ x y. y ≤ x) (λ x y. x - y) _ _ _ _ c.requires c.loop-axis.invariant c.loop-axis-test.true

pub loop-axis-preserved : goal.loop-axis-preserved
loop-axis-preserved c =
    combined_more (λ x y. x - y) _ _ _ _ (length_all_zip (λ x y. y ≤ x) _ _ c.requires) c.loop-axis.invariant c.loop-axis-test.true

pub returns : goal.returns
returns c =
    combined_all (λ x y. x - y) _ _ _ _ (length_all_zip (λ x y. y ≤ x) _ _ c.requires) c.loop-axis.invariant (omega arith)
