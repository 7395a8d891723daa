use Rattle.std.proofs.Common.{rules, sym, ◌∙◌}
use Rattle.nd_base.proofs.Laws.Faults.{OnOk-without_error}
use Rattle.nd_shape.proofs.Laws.AcceptanceByStrides.{by_strides_valid, by_strides_in_bounds, by_strides_distinct}
use Rattle.nd_shape.proofs.acceptance.can_index_slice_with_strides.Goals as goal

pub returns-in-C-clause-fault : goal.returns-in-C-clause-fault
returns-in-C-clause-fault g c = search rules

pub returns-in-C-clause-valid : goal.returns-in-C-clause-valid
returns-in-C-clause-valid g c =
    let list = g.D.Lengths.list in
    OnOk-without_error _ (λ none. by_strides_valid list c.args.elem_size c.args.len c.args.mode (list c.args.dim.now) c.args.strides.now
    (sym (returns-in-C-clause-fault g c) ∙ none))

pub returns-in-C-clause-in_bounds : goal.returns-in-C-clause-in_bounds
returns-in-C-clause-in_bounds g c =
    let list = g.D.Lengths.list in
    OnOk-without_error _ (λ none. by_strides_in_bounds list c.args.elem_size c.args.len c.args.mode (list c.args.dim.now) c.args.strides.now
    (sym (returns-in-C-clause-fault g c) ∙ none))

pub returns-in-C-clause-distinct : goal.returns-in-C-clause-distinct
returns-in-C-clause-distinct g c owned =
    let list = g.D.Lengths.list in
    OnOk-without_error _ (λ none. by_strides_distinct list c.args.elem_size c.args.len (list c.args.dim.now) c.args.strides.now
    (rw owned at (sym (returns-in-C-clause-fault g c) ∙ none)))
