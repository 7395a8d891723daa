-- With a new axis each index has a place to itself, which has a mark.
use Rattle.nd_access.proofs.Laws.Marks.{part_descendant}
use Rattle.nd_lent.proofs.array_view_mut.ArrayViewMut.insert_axis.Goals as goal

pub of_cells-requires : goal.of_cells-requires
of_cells-requires g c = part_descendant _ c.in_ok-view.ensures.kept c.args.self.part
