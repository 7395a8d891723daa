-- The slices so far share no index with one that is read after them.
use Rattle.std.proofs.Common.{ℕ, ◌<◌, length, map}
use Rattle.nd_slice.proofs.Definitions.{AreApart, slice_at}
use Rattle.nd_slice.proofs.intersecting_pair.first_in_direction.Given as goal

abbrev pub invariant-loop-turn : goal.invariant-loop-turn
invariant-loop-turn g l = (k : ℕ) → k < l.turn → (later : ℕ) → k < later → later < length l.slices
    → AreApart l.fit l.shape (slice_at (map g.S.SliceElems.list l.slices) g.R.Direction.backwards k)
    (slice_at (map g.S.SliceElems.list l.slices) g.R.Direction.backwards later)
