-- The last chunk is a part of its own, and the right has those before it.
use Rattle.std.proofs.Common.{ap, length, refl}
use Rattle.std.proofs.lemmas.Bool.{false≢true}
use Rattle.ndarray_layout.specs.Memory.{NeedsNoMemory}
use Rattle.nd_lent.specs.PartsValue.{PartsValue}
use Rattle.nd_lent.proofs.BlocksOf.{last_is, of_views}
use Rattle.nd_lent.proofs.Tiles.{first_is_part, own_last, own_others}
use Rattle.nd_lent.proofs.array_view_mut.parts.Parts.try_next_back.Goals as goal

pub returns-in_err-view-clause-memory : goal.returns-in_err-view-clause-memory
returns-in_err-view-clause-memory g c =
    let self = c.self.inside in
    let views = g.V.Views.left self.views in
    let are = ap (λ (value : PartsValue g.row.T.Denot). value.arrays) c.self.view_is in
    λ all. absurd (false≢true (c.in_err-view.ensures.memory
    (of_views self.cells.items (λ view. NeedsNoMemory g.V.Dim.FixedCount.NDIM (length view.shape)) views are all)))

pub take_from-requires : goal.take_from-requires
take_from-requires g c =
    let self = c.self.inside in
    let views = g.V.Views.left self.views in
    let others = g.V.Views.left c.try_next_back.new.self in
    first_is_part (own_last c.self.invariant (last_is views others c.in-Some.is c.in_ok-view.ensures.last)) refl

pub invariant_of-self-in-Some : goal.invariant_of-self-in-Some
invariant_of-self-in-Some g c =
    let self = c.self.inside in
    let views = g.V.Views.left self.views in
    let others = g.V.Views.left c.try_next_back.new.self in
    let is = last_is views others c.in-Some.is c.in_ok-view.ensures.last in
    rw c.take_from.ensures.left (own_others (own_last c.self.invariant is) refl)
