-- The first of the views that are left is read, and so are the others.
use Rattle.std.proofs.Common.{length}
use Rattle.std.proofs.lemmas.Bool.{false≢true}
use Rattle.ndarray_layout.specs.Memory.{NeedsNoMemory}
use Rattle.nd_access.specs.Read.{IsRead}
use Rattle.nd_lent.proofs.BlocksOf.{after_first, first_is, of_first, of_views}
use Rattle.nd_lent.proofs.array_view.arrays.Arrays.try_next.Goals as goal

pub returns-in_err-view-clause-memory : goal.returns-in_err-view-clause-memory
returns-in_err-view-clause-memory g c =
    let self = c.self.inside in
    let views = g.V.Views.left self.views in
    λ all. absurd (false≢true (c.in_err-view.ensures.memory
    (of_views self.reader.items (λ view. NeedsNoMemory g.V.Dim.FixedCount.NDIM (length view.shape)) views c.self.view_is all)))

pub of_reader-requires : goal.of_reader-requires
of_reader-requires g c =
    let self = c.self.inside in
    let views = g.V.Views.left self.views in
    let others = g.V.Views.left c.try_next.new.self in
    rw c.copied.ensures.same
    (of_first (IsRead self.reader.marks (length self.reader.items)) views others c.self.invariant c.in-Some.view
    (first_is views others c.in-Some.is c.in_ok-view.ensures.first))

pub invariant_of-self-2 : goal.invariant_of-self-2
invariant_of-self-2 g c =
    let self = c.self.inside in
    let views = g.V.Views.left self.views in
    let others = g.V.Views.left c.try_next.new.self in
    after_first (IsRead self.reader.marks (length self.reader.items)) views others c.self.invariant c.in_ok-view.field-0
    c.in_ok-view.ensures.first
