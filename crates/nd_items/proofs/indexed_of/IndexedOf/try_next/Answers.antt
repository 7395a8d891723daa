-- No memory is needed for the indices of the items that are left, so none for the next one.
use Rattle.std.proofs.lemmas.Bool.{false≢true}
use Rattle.ndarray_layout.specs.Memory.{NeedsNoMemory}
use Rattle.nd_items.proofs.Indexed.{holds_of_indices}
use Rattle.nd_items.proofs.indexed_of.IndexedOf.try_next.Goals as goal

pub returns-in_err-index-clause-memory : goal.returns-in_err-index-clause-memory
returns-in_err-index-clause-memory g c = λ all.
    let self = c.args.self.now in
    let needs = holds_of_indices self.index (g.I.LentItems.left self.items) self.alike (NeedsNoMemory g.D.FixedCount.NDIM) all in
    absurd (false≢true (c.in_err-index.ensures.memory needs))
