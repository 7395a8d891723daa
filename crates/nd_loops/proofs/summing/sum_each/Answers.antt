-- The sum of one row more is added.
use Rattle.std.proofs.Common.{◌≡◌, arith}
use Rattle.std.proofs.lemmas.Grind.{common_steps}
use Rattle.nd_loops.proofs.Laws.Few.{others_few}
use Rattle.nd_loops.proofs.summing.sum_each.Goals as goal

pub loop-row-preserved : goal.loop-row-preserved
loop-row-preserved g c = record {
  few = others_few (λ row. g.row.FEW ≡ row.row.len) c.in-Some.ensures.steps c.loop-row.invariant.few;
  sum = grind (arith, common_steps);
  fits = grind (arith, common_steps);
}
