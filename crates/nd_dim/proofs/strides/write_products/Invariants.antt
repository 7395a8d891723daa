-- The product of the lengths so far, and those of the axes that are written.
use Rattle.std.proofs.Common.{◌≡◌, ◌<◌, ◌*◌, ℕ, length, get_or}
use Rattle.nd_dim.specs.Strides.{size_until}
use Rattle.nd_dim.proofs.strides.write_products.Given as goal

abbrev pub invariant-loop-k : goal.invariant-loop-k
invariant-loop-k g l = record {
  product : l.product ≡ l.first * size_until (g.S.Sequence.items l.lens) l.k;
  room : length (g.O.Sequence.items l.out) ≡ length (g.S.Sequence.items l.lens);
  written : (j : ℕ) → j < l.k → get_or (g.O.Sequence.items l.out) j 0 ≡ l.first * size_until (g.S.Sequence.items l.lens) j;
  target : g.O.SequenceMut.same_target l.fn.out l.out;
}
