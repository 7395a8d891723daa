-- Each index has a place to itself as before, which has a mark.
use Rattle.nd_access.proofs.Laws.Marks.{part_descendant}
use Rattle.nd_lent.proofs.array_view_mut.ArrayViewMut.into_lanes.Goals as goal

pub of_cells-requires : goal.of_cells-requires
of_cells-requires g c = part_descendant c.args.self.cells.marks c.in_ok-view.ensures.kept c.args.self.part
