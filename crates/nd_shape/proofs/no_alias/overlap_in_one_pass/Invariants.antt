-- The axes so far: how far they reach together, that each longer than 1 has a stride past the reach of
-- those before it, and which of these strides is the longest.
use Rattle.std.proofs.Common.{◌≡◌, ℕ, ◌<◌, ◌≤◌, length, get_or, take}
use Rattle.std.specs.List.{sum_by}
use Rattle.nd_base.specs.Indices.{below}
use Rattle.nd_base.specs.Signed.{all_signed}
use Rattle.nd_dim.specs.StrideOrder.{magnitude_at}
use Rattle.nd_shape.specs.NoAliasPass.{reach_at}
use Rattle.nd_shape.proofs.no_alias.overlap_in_one_pass.Given as goal

abbrev pub invariant-loop-position : goal.invariant-loop-position
invariant-loop-position g l =
    let shape = g.S.Sequence.items l.shape in
    let strides = all_signed (g.S.Sequence.items l.strides) in
    let order = below (length shape) in
    record {
      reached : l.reached ≡ sum_by (reach_at shape strides) (take l.position order);
      longest : l.longest ≤ l.reached;
      pass : (k : ℕ) → k < l.position → 1 < get_or shape (get_or order k 0) 0
          → (sum_by (reach_at shape strides) (take k order) < magnitude_at strides (get_or order k 0))
          × (magnitude_at strides (get_or order k 0) ≤ l.longest);
    }
