-- The product of the later lengths; the axes so far have the strides that the shape has by itself.
use Rattle.std.proofs.Common.{◌≡◌, ◌≤◌, ◌<◌, ℕ, length, drop, get_or}
use Rattle.nd_base.specs.Size.{size}
use Rattle.nd_dim.specs.Strides.{size_after}
use Rattle.nd_dim.proofs.contiguous.has_default_strides.Given as goal

abbrev pub invariant-loop-axis : goal.invariant-loop-axis
invariant-loop-axis l = record {
  product : l.size ≡ size (drop l.axis l.lens);
  same : (k : ℕ) → l.axis ≤ k → k < length l.lens → get_or l.strides k 0 ≡ size_after l.lens k;
}
