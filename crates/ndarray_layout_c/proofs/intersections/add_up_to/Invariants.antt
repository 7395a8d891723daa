-- What the counts so far leave.
use Rattle.std.proofs.Common.{◌≡◌, ◌+◌, drop}
use Rattle.ndarray_layout_c.specs.SlicesNamed.{total}
use Rattle.ndarray_layout_c.proofs.intersections.add_up_to.Given as goal

abbrev pub invariant-loop-count : goal.invariant-loop-count
invariant-loop-count l = total l.counts + l.left ≡ l.len + total (drop l.count-index l.counts)
