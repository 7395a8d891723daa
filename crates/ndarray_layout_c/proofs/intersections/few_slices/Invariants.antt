-- The slices so far, and those of what is left.
use Rattle.std.proofs.Common.{◌≡◌, ◌++◌, length, map, take, drop}
use Rattle.ndarray_layout_c.specs.SlicesNamed.{cut_by, total}
use Rattle.ndarray_layout_c.proofs.intersections.few_slices.Given as goal

abbrev pub invariant-loop-position : goal.invariant-loop-position
invariant-loop-position l = record {
  few : length l.slices ≡ 4;
  room : total (drop l.position l.counts) ≡ length l.left;
  slices : map (λ slice. slice.now) (take l.position l.slices) ++ cut_by (drop l.position l.counts) l.left ≡ cut_by l.counts l.elems;
}
