-- The block at the first of the places that are left is a view, and so are the others.
use Rattle.std.proofs.Common.{◌<◌, pos, length, refl, sym, ap, subst, ◌∙◌, pos_of_ne-zero}
use Rattle.std.proofs.lemmas.Bool.{false≢true}
use Rattle.std.proofs.lemmas.List.{length-map}
use Rattle.nd_base.specs.Memory.{NeedsNoMemory}
use Rattle.nd_base.proofs.Laws.Definitions.{signed}
use Rattle.ndarray_layout.specs.BlocksView.{block_at}
use Rattle.ndarray_layout.specs.View.{IsView}
use Rattle.ndarray_layout.proofs.BlocksLeft.{left_after_first, of_first, of_one}
use Rattle.ndarray_layout.proofs.strided.block_views.BlockViews.try_next.Goals as goal

pub returns-in_err-dim-clause-memory : goal.returns-in_err-dim-clause-memory
returns-in_err-dim-clause-memory g c =
    let self = c.self.inside in
    let some : 0 < length self.starts =
    pos_of_ne-zero (λ none. false≢true (sym c.if-has_ended.false ∙ c.has_ended.ensures.1 none)) in
    λ all. absurd (false≢true (c.in_err-dim.ensures.memory
    (of_one (block_at (g.D.Lengths.list self.block) self.view) self.starts c.self.view_is
    (λ view. NeedsNoMemory g.D.FixedCount.NDIM (length view.shape)) all (pos 0) some)))

pub returns-in_err-strides-clause-memory : goal.returns-in_err-strides-clause-memory
returns-in_err-strides-clause-memory g c =
    let self = c.self.inside in
    let made = block_at (g.D.Lengths.list self.block) self.view in
    let some : 0 < length self.starts =
    pos_of_ne-zero (λ none. false≢true (sym c.if-has_ended.false ∙ c.has_ended.ensures.1 none)) in
    let view = of_one made self.starts refl IsView c.self.invariant (pos 0) some in
    λ all. absurd (false≢true (c.in_err-strides.ensures.memory
    (subst (NeedsNoMemory g.D.FixedCount.NDIM) (view.valid.same_count ∙ sym (ap length c.strides.ensures.list)
    ∙ length-map (g.D.Lengths.list c.strides.result.now) signed)
    (of_one made self.starts c.self.view_is (λ view. NeedsNoMemory g.D.FixedCount.NDIM (length view.shape)) all (pos 0) some))))

pub invariant_of-self : goal.invariant_of-self
invariant_of-self g c =
    let self = c.self.inside in
    left_after_first (block_at (g.D.Lengths.list self.block) self.view) self.starts refl IsView c.self.invariant pos c.next.result
    c.next.new.self c.next.ensures.steps

pub invariant_of-result : goal.invariant_of-result
invariant_of-result g c =
    let self = c.self.inside in
    rw (c.in_ok-dim.ensures.list, c.in_ok-strides.ensures.list, c.strides.ensures.list)
    (of_first (block_at (g.D.Lengths.list self.block) self.view) self.starts refl IsView c.self.invariant (pos c.in-Some.start)
    c.next.new.self c.in-Some.ensures.steps)
