-- Each index has a place to itself as before, which has a mark.
use Rattle.ndarray_layout.specs.InvertedView.{invert_source}
use Rattle.nd_access.proofs.Laws.Marks.{part_after}
use Rattle.nd_lent.proofs.array_view_mut.ArrayViewMut.invert_axis.Goals as goal

pub invariant_of-self : goal.invariant_of-self
invariant_of-self g c = record {
  part = part_after c.invert_axis.result (invert_source c.args.axis.0 c.args.self.now.view.shape)
      _ c.invert_axis.ensures.unchanged c.invert_axis.ensures.kept c.args.self.now.part;
}
