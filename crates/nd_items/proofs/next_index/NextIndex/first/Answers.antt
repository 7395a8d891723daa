-- All indices are left, from zeros on.
use Rattle.std.proofs.Common.{◌≡◌, ◌<◌, ap, ◌∙◌, arith}
use Rattle.ndarray_layout.specs.FlatIndex.{flat_index}
use Rattle.ndarray_layout.specs.Size.{size}
use Rattle.nd_items.proofs.IndexRow.{zeros_here}
use Rattle.ndarray_layout.proofs.Laws.FlatIndex.{flat_index-zeros}
use Rattle.nd_items.proofs.next_index.NextIndex.first.Goals as goal

pub of-at-requires-clause-here : goal.of-at-requires-clause-here
of-at-requires-clause-here g c =
    let shape = g.D.Lengths.list c.in_ok-dim.dim in
    let some : 0 < size shape = omega (arith, c.requires, ap size c.in_ok-dim.ensures.list, c.if-count-eq0.false) in
    rw (c.slice.ensures.list, c.slice-else-count-eq0.ensures.list, c.in_ok-row.ensures.list, c.ndim.ensures.count) (zeros_here shape some)

pub of-at-requires-clause-left : goal.of-at-requires-clause-left
of-at-requires-clause-left g c =
    let shape = g.D.Lengths.list c.in_ok-dim.dim in
    let flat : flat_index c.slice.result.now c.slice-else-count-eq0.result.now ≡ 0 =
    rw (c.slice.ensures.list, c.slice-else-count-eq0.ensures.list, c.in_ok-row.ensures.list, c.ndim.ensures.count)
    (flat_index-zeros shape) in
    let many = ap size (c.slice.ensures.list ∙ c.in_ok-dim.ensures.list) in omega (arith, flat, many, c.requires)
