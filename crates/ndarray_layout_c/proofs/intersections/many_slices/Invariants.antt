-- The slices so far, and those of what is left.
use Rattle.std.proofs.Common.{◌≡◌, ◌++◌, length, map, drop}
use Rattle.ndarray_layout_c.specs.SlicesNamed.{cut_by, total}
use Rattle.ndarray_layout_c.proofs.intersections.many_slices.Given as goal

abbrev pub invariant-loop-count : goal.invariant-loop-count
invariant-loop-count l = record {
  room : total (drop l.count-index l.counts) ≡ length l.left;
  slices : map (λ slice. slice.now) l.slices.items ++ cut_by (drop l.count-index l.counts) l.left ≡ cut_by l.counts l.elems;
}
