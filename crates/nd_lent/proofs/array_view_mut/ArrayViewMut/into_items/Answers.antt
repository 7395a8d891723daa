use Rattle.nd_lent.proofs.array_view_mut.ArrayViewMut.into_items.Goals as goal

pub of_cells-requires : goal.of_cells-requires
of_cells-requires g c = c.args.self.part
