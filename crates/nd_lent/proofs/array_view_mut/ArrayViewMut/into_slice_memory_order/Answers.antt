-- The places of a part that follow one another have marks, and the slice has the items there.
use Rattle.std.proofs.Common.{◌∙◌}
use Rattle.nd_lent.specs.Lent.{array_of}
use Rattle.nd_lent.proofs.MemoryRange.{items_from}
use Rattle.nd_lent.proofs.array_view_mut.ArrayViewMut.into_slice_memory_order.Goals as goal

pub take_slice-requires : goal.take_slice-requires
take_slice-requires g c =
    let own = c.args.self in
    c.in-Some.ensures.marked own.cells.marks own.part.marked

pub returns-in-Some-clause-items : goal.returns-in-Some-clause-items
returns-in-Some-clause-items g c =
    let found = c.in-Some.ensures in
    c.take_slice.ensures.all.0
    ∙ items_from (array_of c.args.self) c.in-Some.start c.in-Some.len found.start found.len
