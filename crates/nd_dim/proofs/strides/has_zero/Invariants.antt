-- No length so far is 0.
use Rattle.std.proofs.Common.{◌≡◌, false, take}
use Rattle.nd_base.specs.Size.{is_empty}
use Rattle.nd_dim.proofs.strides.has_zero.Given as goal

abbrev pub invariant-loop-k : goal.invariant-loop-k
invariant-loop-k g l = is_empty (take l.k (g.S.Sequence.items l.lens)) ≡ false
