-- The coordinates before the axis were at their ends, and are 0.
use Rattle.std.proofs.Common.{◌≡◌, length}
use Rattle.nd_dim.proofs.Stepped.{IsCarried}
use Rattle.nd_dim.proofs.next_index.advance.Given as goal

abbrev pub invariant-loop-k : goal.invariant-loop-k
invariant-loop-k g l = record {
  room : length (g.I.Sequence.items l.index) ≡ length (g.S.Sequence.items l.shape);
  carried : IsCarried l.k (g.S.Sequence.items l.shape) (g.I.Sequence.items l.fn.index) (g.I.Sequence.items l.index);
  target : g.I.SequenceMut.same_target l.fn.index l.index;
}
