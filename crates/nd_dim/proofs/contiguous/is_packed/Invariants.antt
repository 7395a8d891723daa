-- Each axis so far passes.
use Rattle.std.proofs.Common.{◌≡◌, ◌<◌, ℕ, true}
use Rattle.nd_base.specs.Signed.{all_signed}
use Rattle.nd_dim.specs.Contiguous.{is_packed_at}
use Rattle.nd_dim.proofs.contiguous.is_packed.Given as goal

abbrev pub invariant-loop-axis : goal.invariant-loop-axis
invariant-loop-axis l = (k : ℕ) → k < l.axis → is_packed_at l.lens (all_signed l.strides) k ≡ true
