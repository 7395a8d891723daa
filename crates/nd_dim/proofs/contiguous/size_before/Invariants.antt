-- The product of the chosen lengths so far, which leaves room for the later ones.
use Rattle.std.proofs.Common.{◌≡◌, ◌≤◌, ◌*◌, drop, map}
use Rattle.std.specs.List.{filter, slice_index}
use Rattle.nd_base.proofs.Laws.Definitions.{below, all_signed, limit, nonzero_size, size}
use Rattle.nd_dim.specs.StrideOrder.{comes_before}
use Rattle.nd_dim.proofs.contiguous.size_before.Given as goal

abbrev pub invariant-loop-other : goal.invariant-loop-other
invariant-loop-other l = record {
  product : l.size ≡ size (map (slice_index l.lens) (filter (λ other. comes_before (all_signed l.strides) other l.axis) (below l.other)));
  room : l.size * nonzero_size (drop l.other l.lens) ≤ limit;
}
