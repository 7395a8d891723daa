-- The places that follow one another have marks, and the slice has the items there.
use Rattle.std.proofs.Common.{◌∙◌}
use Rattle.nd_lent.proofs.MemoryRange.{items_from}
use Rattle.nd_lent.proofs.array_view.ArrayView.as_slice_memory_order.Goals as goal

pub slice-requires : goal.slice-requires
slice-requires g c = c.in_ok-start.ensures.marked c.self.inside.reader.marks c.self.invariant.marked

pub returns-clause-items : goal.returns-clause-items
returns-clause-items g c =
    let own = c.self.inside in
    let found = c.in_ok-start.ensures in
    rw (← c.self.view_is)
    (c.slice.ensures.all.0
    ∙ items_from (record { items = own.reader.items; view = own.view }) c.in_ok-start.start c.in_ok-start.len found.start found.len)
