-- The product of the lengths so far; the axes so far have the strides of their order.
use Rattle.std.proofs.Common.{◌≡◌, ◌≢◌, ◌<◌, ℕ, get_or}
use Rattle.nd_dim.specs.Strides.{size_until}
use Rattle.nd_shape.proofs.major_order.has_strides.Given as goal

abbrev pub invariant-loop-k : goal.invariant-loop-k
invariant-loop-k g l = record {
  product : l.size ≡ size_until (g.S.Sequence.items l.lens) l.k;
  same : (j : ℕ) → j < l.k → get_or (g.S.Sequence.items l.lens) j 0 ≢ 1
      → get_or (g.S.Sequence.items l.strides) j 0 ≡ size_until (g.S.Sequence.items l.lens) j;
}
