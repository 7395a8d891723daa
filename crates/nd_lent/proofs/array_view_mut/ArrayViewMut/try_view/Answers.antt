-- Each place of the part has a mark, and an item.
use Rattle.std.proofs.Common.{length}
use Rattle.nd_lent.proofs.PartRead.{part_read}
use Rattle.nd_lent.proofs.array_view_mut.ArrayViewMut.try_view.Goals as goal

pub of_reader-requires : goal.of_reader-requires
of_reader-requires g c =
    let self = c.args.self.now in
    let all = c.shared.ensures.all in
    rw (all.0, all.1, c.in_ok-view.ensures.view) (part_read self.cells.marks self.view (length self.cells.items) all.2 self.part)
