-- The common length is the other one where this one is 1, and this one where it is not.
use Rattle.std.proofs.Common.{rules}
use Rattle.nd_shape.proofs.broadcast.stretched.Goals as goal

pub returns-then-len-eq1 : goal.returns-then-len-eq1
returns-then-len-eq1 c = search rules depth 3

pub returns-else-len-eq1 : goal.returns-else-len-eq1
returns-else-len-eq1 c = search rules depth 3
