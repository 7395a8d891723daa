-- Each index has a place to itself as before, which has a mark.
use Rattle.std.specs.List.{swap}
use Rattle.nd_access.proofs.Laws.Marks.{part_after}
use Rattle.nd_lent.proofs.array_view_mut.ArrayViewMut.swap_axes.Goals as goal

pub invariant_of-self : goal.invariant_of-self
invariant_of-self g c = record {
  part = part_after c.swap_axes.result (λ index. swap index c.args.axis.0 c.args.other.0)
      _ c.swap_axes.ensures.unchanged c.swap_axes.ensures.kept c.args.self.now.part;
}
