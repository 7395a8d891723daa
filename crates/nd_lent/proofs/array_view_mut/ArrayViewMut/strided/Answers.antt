-- Each place of the part has a mark, and an item; no two of its indices have one place.
use Rattle.std.proofs.Common.{length}
use Rattle.nd_lent.proofs.PartRead.{part_read}
use Rattle.nd_lent.proofs.array_view_mut.ArrayViewMut.strided.Goals as goal

pub returns-clause-owned : goal.returns-clause-owned
returns-clause-owned g c =
    let self = c.args.self.now in
    let read = part_read self.cells.marks self.view (length self.cells.items) c.shared-shared.ensures.all.2 self.part in
    record { is_view = read.has.is_view; within = read.has.within; distinct = self.part.distinct }
