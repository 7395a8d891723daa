-- The product so far is within the limit, and times that of the lengths still to come it is that of all.
use Rattle.std.proofs.Common.{◌≡◌, ◌≤◌, ◌*◌, drop}
use Rattle.nd_base.specs.Size.{nonzero_size, limit}
use Rattle.nd_shape.proofs.size_limits.checked_nonzero_size.Given as goal

abbrev pub invariant-loop-len : goal.invariant-loop-len
invariant-loop-len l = record {
  fits : l.size ≤ limit;
  product : l.size * nonzero_size (drop l.len-index l.shape) ≡ nonzero_size l.shape;
}
