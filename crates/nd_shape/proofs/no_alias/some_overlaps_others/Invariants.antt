-- Every axis so far strides over the others.
use Rattle.std.proofs.Common.{◌≡◌, ℕ, ◌<◌, true}
use Rattle.nd_base.specs.Signed.{all_signed}
use Rattle.nd_shape.specs.NoAlias.{strides_over_others}
use Rattle.nd_shape.proofs.no_alias.some_overlaps_others.Given as goal

abbrev pub invariant-loop-axis : goal.invariant-loop-axis
invariant-loop-axis l = (k : ℕ) → k < l.axis → strides_over_others l.shape (all_signed l.strides) k ≡ true
