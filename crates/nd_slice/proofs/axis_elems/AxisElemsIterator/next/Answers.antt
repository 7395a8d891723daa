use Rattle.std.proofs.Common.{◌≡◌, [], sym, ◌∙◌}
use Rattle.std.specs.Slice.Iter.{iter_rest}
use Rattle.nd_slice.proofs.Laws.AxisElems.{axis_elems-no_axes}
use Rattle.nd_slice.proofs.axis_elems.AxisElemsIterator.next.Goals as goal

pub returns-in_err-next-clause-steps : goal.returns-in_err-next-clause-steps
returns-in_err-next-clause-steps c =
    let at = c.loop-elem.self-inside in
    let no_axis = c.in_err-next.ensures.steps in
    let before : c.args.self.now ≡ [] = sym c.self.view_is ∙ sym c.loop-elem.invariant
    ∙ axis_elems-no_axes (iter_rest at.shape) (iter_rest at.elems) no_axis.0 in
    let after = axis_elems-no_axes (iter_rest c.next-then-not-is_new_axis.new.self) (iter_rest c.next.new.self)
    (rw no_axis.1 no_axis.0) in
    rw c.from_residual.ensures (before, after)
