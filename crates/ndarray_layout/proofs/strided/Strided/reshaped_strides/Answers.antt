-- Which shapes have an index says which faults are left.
use Rattle.std.proofs.Common.{◌≡◌, ◌≤◌, sym, ap, subst, ◌∙◌}
use Rattle.std.specs.Prelude.{None, IfErr, IfOk, OnOk}
use Rattle.std.proofs.lemmas.Bool.{false≢true}
use Rattle.nd_base.proofs.Laws.Definitions.{NeedsNoMemory, all_signed, is_empty, limit, nonzero_size}
use Rattle.ndarray_layout.specs.ReshapedView.{IsReshapeError, reshaped_strides as strides_of, view_reshape_fault}
use Rattle.ndarray_layout.specs.View.{View, view_of}
use Rattle.ndarray_layout.proofs.matching.Views.{HaveIndices, view_fault_between, error_between, both_are, strides_between, strides_of_none}
use Rattle.ndarray_layout.proofs.matching.Views.{within_limit}
use Rattle.std.specs.Prelude.{length}
use Rattle.ndarray_layout.proofs.strided.Strided.reshaped_strides.Given.{Over}
use Rattle.ndarray_layout.proofs.strided.Strided.reshaped_strides.Goals as goal
use Rattle.nd_base.proofs.Laws.Faults.{IfErr-handed_on}

pub returns-in_err-zeros-clause-fault : goal.returns-in_err-zeros-clause-fault
returns-in_err-zeros-clause-fault g c =
    let to = g.E.Lengths.list c.args.shape.now in
    let fits : nonzero_size to ≤ limit = within_limit (nonzero_size to) c.in_ok-size_of_shape_checked.ensures.fault in
    let empty = both_are c.contains-is_empty.ensures.value c.contains.ensures.value c.slice-lens.ensures.list c.slice-new_lens.ensures.list
    c.if-is_empty-contains.false c.if-is_empty.true in
    let asks = subst (λ (v : View). (nonzero_size to ≤ limit) × (is_empty to ≡ is_empty v.shape)) c.self.view_is
    (fits, empty.1 ∙ sym empty.0) in
    let few = λ (none : NeedsNoMemory g.E.FixedCount.NDIM (length to)).
    false≢true (c.in_err-zeros.ensures.memory (rw c.ndim.ensures.count none)) in
    IfErr-handed_on (λ e. IsReshapeError g.E.FixedCount.NDIM c.args.order to c.args.self.now e) c.from_residual-in_err-zeros.result
    c.from_residual-in_err-zeros.ensures.1 (asks, few)

pub returns-then-is_empty-clause-strides : goal.returns-then-is_empty-clause-strides
returns-then-is_empty-clause-strides g c =
    let empty = both_are c.contains-is_empty.ensures.value c.contains.ensures.value c.slice-lens.ensures.list c.slice-new_lens.ensures.list
    c.if-is_empty-contains.false c.if-is_empty.true in
    ap all_signed (c.in_ok-zeros.ensures.list)
    ∙ rw c.ndim.ensures.count (strides_of_none c.args.order (g.E.Lengths.list c.args.shape.now) c.args.self.now empty.1)

-- the view as it is kept
abbrev here : (g : Over) → goal.After-reshape_dim g → View
here g c = view_of c.self.inside.start (g.D.Lengths.list c.self.inside.dim) (g.D.Lengths.list c.self.inside.strides)

-- both shapes have an index
have_indices : (g : Over) (c : goal.After-reshape_dim g) → HaveIndices (g.E.Lengths.list c.args.shape.now) (here g c)
have_indices g c =
    let both = both_are c.contains-is_empty.ensures.value c.contains.ensures.value c.slice-lens.ensures.list c.slice-new_lens.ensures.list
    c.if-is_empty-contains.false c.if-is_empty.false in
    record {
      fits = within_limit (nonzero_size (g.E.Lengths.list c.args.shape.now)) c.in_ok-size_of_shape_checked.ensures.fault;
      some = both.0;
      more = both.1;
    }

pub returns-clause-fits : goal.returns-clause-fits
returns-clause-fits g c =
    let to = g.E.Lengths.list c.args.shape.now in
    subst (λ (v : View). OnOk c.reshape_dim.result (view_reshape_fault c.args.order to v ≡ None)) c.self.view_is
    (rw (view_fault_between c.args.order (have_indices g c)) c.reshape_dim.ensures.fits)

pub returns-clause-fault : goal.returns-clause-fault
returns-clause-fault g c =
    let to = g.E.Lengths.list c.args.shape.now in
    subst (λ (v : View). IfErr c.reshape_dim.result (λ e. IsReshapeError g.E.FixedCount.NDIM c.args.order to v e)) c.self.view_is
    (error_between c.reshape_dim.result g.E.FixedCount.NDIM c.args.order (have_indices g c) c.reshape_dim.ensures.fault
    c.reshape_dim.ensures.memory)

pub returns-clause-strides : goal.returns-clause-strides
returns-clause-strides g c =
    let to = g.E.Lengths.list c.args.shape.now in
    subst (λ (v : View). IfOk c.reshape_dim.result (λ d. all_signed (g.E.Lengths.list d) ≡ strides_of c.args.order to v)) c.self.view_is
    (subst (λ strides. IfOk c.reshape_dim.result (λ d. all_signed (g.E.Lengths.list d) ≡ strides))
    (sym (strides_between c.args.order (have_indices g c))) c.reshape_dim.ensures.strides)
