-- The product so far times that of the lengths still to come is that of all.
use Rattle.std.proofs.Common.{◌≡◌, ◌*◌, drop}
use Rattle.nd_base.specs.Size.{size}
use Rattle.nd_dim.proofs.sizes.product.Given as goal

abbrev pub invariant-loop-len : goal.invariant-loop-len
invariant-loop-len l = (l.size * size (drop l.len-index l.lens) ≡ size l.lens)
