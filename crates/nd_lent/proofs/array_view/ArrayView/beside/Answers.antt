-- Each place of the view has an item.
use Rattle.std.proofs.Common.{length}
use Rattle.ndarray_layout.specs.declared.Order.TheVariants.{RowMajor}
use Rattle.ndarray_layout.proofs.Laws.View.{places_lie_within}
use Rattle.nd_access.proofs.Laws.Read.{places_marked}
use Rattle.nd_lent.proofs.array_view.ArrayView.beside.Goals as goal

pub lent_view-requires-clause-items : goal.lent_view-requires-clause-items
lent_view-requires-clause-items g c =
    rw c.strided.ensures.view
    (places_lie_within (length c.reader.result.items) RowMajor c.args.self.now.view c.reader.ensures.read.has.within)

pub lent_view-requires-clause-marked : goal.lent_view-requires-clause-marked
lent_view-requires-clause-marked g c =
    rw c.strided.ensures.view (places_marked c.reader.result.marks RowMajor c.args.self.now.view c.reader.ensures.read.marked)
