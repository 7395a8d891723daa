-- One number after another.
use Rattle.nd_loops.proofs.SixAxes.{six_listed}
use Rattle.nd_loops.proofs.nearest.six_axes.Goals as goal

pub returns : goal.returns
returns c = let all = six_listed c.args.numbers.now c.args.other c.requires in cc
