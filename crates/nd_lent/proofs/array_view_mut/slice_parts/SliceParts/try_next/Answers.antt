-- The next part is that of the first slice, and the right has the others.
use Rattle.std.proofs.Common.{sym, ap, ◌∙◌}
use Rattle.std.proofs.lemmas.Bool.{false≢true}
use Rattle.ndarray_layout.specs.View.{View}
use Rattle.nd_lent.proofs.SlicesToCome.{fault_of_next, first_needs, first_part, made_first, next_slice, one_fewer, others_to_come}
use Rattle.nd_lent.proofs.SlicesToCome.{same_fault}
use Rattle.nd_lent.proofs.array_view_mut.slice_parts.SliceParts.try_next.Goals as goal

pub returns-in_err-view-clause-fault : goal.returns-in_err-view-clause-fault
returns-in_err-view-clause-fault g c =
    let self = c.args.self.now in
    let from = next_slice self.slices.now self.begun c.in-Some.ensures.lookup.3.0 c.in-Some.ensures.lookup.1 in
    same_fault View c.from_residual.result c.in_err-view.field-0.0 c.from_residual.ensures.1
    ∙ c.in_err-view.ensures.fault ∙ fault_of_next self.left from g.E.FixedCount.NDIM

pub returns-in_err-view-clause-memory : goal.returns-in_err-view-clause-memory
returns-in_err-view-clause-memory g c =
    let self = c.args.self.now in
    let ndim = g.E.FixedCount.NDIM in
    let from = next_slice self.slices.now self.begun c.in-Some.ensures.lookup.3.0 c.in-Some.ensures.lookup.1 in
    λ fits all. absurd (false≢true (c.in_err-view.ensures.memory
    (sym (same_fault View c.from_residual.result c.in_err-view.field-0.0 c.from_residual.ensures.1 ∙ c.in_err-view.ensures.fault) ∙ fits)
    (first_needs from ndim all)))

pub take_from-requires : goal.take_from-requires
take_from-requires g c =
    let self = c.args.self.now in
    let from = next_slice self.slices.now self.begun c.in-Some.ensures.lookup.3.0 c.in-Some.ensures.lookup.1 in
    first_part self.left from c.in_ok-view.ensures.sliced c.in_ok-view.ensures.kept

pub invariant_of-self : goal.invariant_of-self
invariant_of-self g c =
    let self = c.args.self.now in
    let from = next_slice self.slices.now self.begun c.in-Some.ensures.lookup.3.0 c.in-Some.ensures.lookup.1 in
    record { left = others_to_come self.left from c.in_ok-view.ensures.sliced c.take_from.ensures.left }

pub returns-clause-fault : goal.returns-clause-fault
returns-clause-fault g c =
    let self = c.args.self.now in
    let from = next_slice self.slices.now self.begun c.in-Some.ensures.lookup.3.0 c.in-Some.ensures.lookup.1 in
    c.in_ok-view.ensures.fault ∙ fault_of_next self.left from g.E.FixedCount.NDIM

pub returns-clause-first : goal.returns-clause-first
returns-clause-first g c =
    let self = c.args.self.now in
    let from = next_slice self.slices.now self.begun c.in-Some.ensures.lookup.3.0 c.in-Some.ensures.lookup.1 in
    made_first self.cells.items self.view from
    (c.take_from.ensures.array ∙ ap (λ v. record { items = self.cells.items; view = v }) c.in_ok-view.ensures.sliced)
    c.take_from.ensures.items

pub returns-clause-others : goal.returns-clause-others
returns-clause-others g c = one_fewer c.args.self.now.slices.now c.args.self.now.begun
