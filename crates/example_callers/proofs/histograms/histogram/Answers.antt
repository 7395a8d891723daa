-- At first no pixel is counted, then one more at each step.
use Rattle.std.proofs.Common.{rules}
use Rattle.nd_lent.proofs.Laws.Counted.{none_counted, one_counted}
use Rattle.example_callers.proofs.histograms.histogram.Goals as goal

pub loop-pixel-init : goal.loop-pixel-init
loop-pixel-init g c = none_counted (search rules)

pub loop-pixel-preserved : goal.loop-pixel-preserved
loop-pixel-preserved g c = one_counted c.from.result c.loop-pixel.invariant (search rules) (search rules)
