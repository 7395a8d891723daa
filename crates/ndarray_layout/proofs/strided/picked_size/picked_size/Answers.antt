use Rattle.std.proofs.Common.{rules, ◌≡◌, ◌≤◌, ◌*◌, arith, length, ap, sym, ◌∙◌, None}
use Rattle.nd_slice.specs.SliceFault.{elem_fault}
use Rattle.nd_slice.specs.AxisElems.{axis_elems}
use Rattle.nd_slice.specs.Intersect.{elem_picks}
use Rattle.nd_slice.proofs.Laws.ElemRange.{end_of_range, picks_of_range}
use Rattle.nd_slice.proofs.Laws.Picks.{length-between_le}
use Rattle.ndarray_layout.proofs.PickedSize.{PickedSoFar, next_picked, none_picked, size_small}
use Rattle.ndarray_layout.proofs.strided.picked_size.picked_size.Goals as goal
use Rattle.ndarray_layout.proofs.strided.picked_size.picked_size.Goals.{After-count}

pub loop-len-init : goal.loop-len-init
loop-len-init c =
    let left : c.into_iter-len-iterator.result ≡ axis_elems c.args.shape.now c.args.elems.now = search rules in
    rw left (none_picked (omega (arith, c.in_ndim_of.ensures)))

picked : (c : After-count) → PickedSoFar c.args.fit c.args.elems.now c.args.shape.now c.next.new.self (c.loop-len.size * c.count.result)
picked c =
    let p = c.in_ok-resolve_elem.field-0 in
    let none : elem_fault c.args.fit c.in-Some.len c.in-Some.elem ≡ None = sym c.in_ok-resolve_elem.ensures.fault in
    let count : c.count.result ≡ length (elem_picks c.args.fit c.in-Some.len c.in-Some.elem) = c.count.ensures
    ∙ ap length (picks_of_range c.args.fit c.in-Some.len c.in-Some.elem c.in_ok-resolve_elem.ensures.range) in
    let within = end_of_range c.args.fit c.in-Some.len c.in-Some.elem c.in_ok-resolve_elem.ensures.range none in
    let few : c.count.result ≤ c.in-Some.len = omega (arith, c.count.ensures, length-between_le p.step p.start p.end p.moves, within) in
    next_picked none count few (rw c.in-Some.ensures.steps at c.loop-len.invariant)

pub overflow_mul-size : goal.overflow_mul-size
overflow_mul-size c =
    let at = (goal.at.overflow_mul-size c).After-count in
    omega (arith, size_small c.requires (picked at))

pub loop-len-preserved : goal.loop-len-preserved
loop-len-preserved c = picked ((goal.at.loop-len-preserved c).After-count)
