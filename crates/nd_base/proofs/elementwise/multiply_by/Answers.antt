-- What the loop reads is what the lists had, and each turn combines one more item.
use Rattle.std.proofs.Common.{◌*◌, ◌<◌, ◌^◌, arith}
use Rattle.std.proofs.lemmas.List.Elements.{length_all_zip}
use Rattle.nd_base.proofs.Laws.ElementwiseLoop.{combined_read, combined_more, combined_all}
use Rattle.nd_base.proofs.elementwise.multiply_by.Goals as goal

pub overflow_mul-lens : goal.overflow_mul-lens
overflow_mul-lens c =
    omega (
      arith,
      combined_read (λ x y. x * y < 2 ^ 64) (λ x y. x * y) _ _
          c.loop-axis.lens c.loop-axis.axis c.requires c.loop-axis.invariant c.loop-axis-test.true,
    )

pub loop-axis-preserved : goal.loop-axis-preserved
loop-axis-preserved c =
    combined_more (λ x y. x * y) _ _ _ _ (length_all_zip (λ x y. x * y < 2 ^ 64) _ _ c.requires)
    c.loop-axis.invariant c.loop-axis-test.true

pub returns : goal.returns
returns c =
    combined_all (λ x y. x * y) _ _ _ _ (length_all_zip (λ x y. x * y < 2 ^ 64) _ _ c.requires)
    c.loop-axis.invariant (omega arith)
