-- The slices that were read so far after the one share no index with it.
use Rattle.std.proofs.Common.{ℕ, ◌<◌, map}
use Rattle.nd_slice.proofs.Definitions.{AreApart, slice_at}
use Rattle.nd_slice.proofs.intersecting_pair.intersects_later.Given as goal

abbrev pub invariant-loop-later : goal.invariant-loop-later
invariant-loop-later g l = (k : ℕ) → k < l.later → l.turn < k
    → AreApart l.fit l.shape (slice_at (map g.S.SliceElems.list l.slices) g.R.Direction.backwards l.turn)
    (slice_at (map g.S.SliceElems.list l.slices) g.R.Direction.backwards k)
