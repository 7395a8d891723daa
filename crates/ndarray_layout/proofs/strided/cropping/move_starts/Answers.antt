-- What the loop reads is what the lists had, and each turn moves one more start.
use Rattle.std.proofs.Common.{◌∙◌, ℕ, cond, set, ap, arith}
use Rattle.std.specs.Prelude.{nat_lt}
use Rattle.nd_base.proofs.Laws.ElementwiseLoop.{combined_all, combined_more}
use Rattle.ndarray_layout.proofs.strided.cropping.move_starts.Goals as goal

abbrev moved : ℕ → ℕ → ℕ
moved start end = cond (nat_lt start end) start 0

pub loop-axis-preserved : goal.loop-axis-preserved
loop-axis-preserved c =
    ap (set c.loop-axis.starts c.loop-axis.axis) c.moved_start.ensures
    ∙ combined_more moved _ _ _ _ c.requires c.loop-axis.invariant c.loop-axis-test.true

pub returns : goal.returns
returns c = combined_all moved _ _ _ _ c.requires c.loop-axis.invariant (omega arith)
