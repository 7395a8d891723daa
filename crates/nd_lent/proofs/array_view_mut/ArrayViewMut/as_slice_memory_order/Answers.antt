-- The places that follow one another have marks, and the slice has the items there.
use Rattle.std.proofs.Common.{◌∙◌, ap, take, drop}
use Rattle.nd_lent.specs.Lent.{array_of}
use Rattle.nd_lent.proofs.MemoryRange.{items_from}
use Rattle.nd_lent.proofs.array_view_mut.ArrayViewMut.as_slice_memory_order.Goals as goal

pub slice-requires : goal.slice-requires
slice-requires g c =
    let own = c.args.self.now in
    rw c.shared.ensures.all.1 (c.in_ok-start.ensures.marked own.cells.marks own.part.marked)

pub returns-clause-items : goal.returns-clause-items
returns-clause-items g c =
    let found = c.in_ok-start.ensures in
    c.slice.ensures.all.0
    ∙ ap (λ items. take c.in_ok-start.len (drop c.in_ok-start.start items)) c.shared.ensures.all.0
    ∙ items_from (array_of c.args.self.now) c.in_ok-start.start c.in_ok-start.len found.start found.len
