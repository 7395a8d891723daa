-- No two indices of a part alias.
use Rattle.nd_lent.proofs.array_view_mut.ArrayViewMut.multi_slice_move.Goals as goal

pub check_apart-requires : goal.check_apart-requires
check_apart-requires g c = c.args.self.part.distinct
