-- The pixels that were counted and those that are left are all.
use Rattle.nd_lent.proofs.Laws.Counted.{AreCountedOf}
use Rattle.example_callers.proofs.histograms.histogram.Given as goal

abbrev pub invariant-loop-pixel : goal.invariant-loop-pixel
invariant-loop-pixel g l = AreCountedOf l.fn.picture 256 l.counts l.pixel-iterator
