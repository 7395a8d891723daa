-- What was written is the view with the strides of the definition, and so all that is known of it holds.
use Rattle.std.proofs.Common.{◌≡◌, ap, refl, subst, sym}
use Rattle.ndarray_layout.specs.ReshapedView.{reshape_of}
use Rattle.ndarray_layout.specs.View.{View, view_of, view_places}
use Rattle.ndarray_layout.proofs.Laws.ReshapedView.{view_reshape_fault-ReshapeFits, Descends-reshape_of, view_places-reshape_of}
use Rattle.ndarray_layout.proofs.strided.Strided.reshape.Given.{Over}
use Rattle.ndarray_layout.proofs.strided.Strided.reshape.Goals as goal
use Rattle.ndarray_layout.proofs.strided.Strided.reshape.Goals.{In_ok-duplicate}

reshaped : (g : Over) (c : In_ok-duplicate g)
    → view_of c.self.inside.start (g.E.Lengths.list c.in_ok-duplicate.field-0) (g.E.Lengths.list c.in_ok-strides.strides)
    ≡ reshape_of c.args.order (g.E.Lengths.list c.args.shape.now) c.args.self.now
reshaped g c =
    let start = ap (λ (view : View). view.start) c.self.view_is in
    rw (start, c.in_ok-duplicate.ensures.list, c.in_ok-strides.ensures.strides) refl

pub returns-in_err-strides-clause-complete : goal.returns-in_err-strides-clause-complete
returns-in_err-strides-clause-complete g c = view_reshape_fault-ReshapeFits c.args.order (g.E.Lengths.list c.args.shape.now)
    c.in_err-strides.ensures.is_view

pub returns-in_err-duplicate-clause-complete : goal.returns-in_err-duplicate-clause-complete
returns-in_err-duplicate-clause-complete g c = view_reshape_fault-ReshapeFits c.args.order (g.E.Lengths.list c.args.shape.now)
    c.in_ok-strides.ensures.is_view

pub invariant_of-result : goal.invariant_of-result
invariant_of-result g c = rw (reshaped g c) (Descends-reshape_of c.args.order (g.E.Lengths.list c.args.shape.now)
    c.in_ok-strides.ensures.is_view c.in_ok-strides.ensures.fits).is_view

pub returns-clause-complete : goal.returns-clause-complete
returns-clause-complete g c =
    view_reshape_fault-ReshapeFits c.args.order (g.E.Lengths.list c.args.shape.now) c.in_ok-strides.ensures.is_view

pub returns-clause-same_places : goal.returns-clause-same_places
returns-clause-same_places g c = subst (λ view. view_places c.args.order view ≡ view_places c.args.order c.args.self.now)
    (sym (reshaped g c)) (view_places-reshape_of c.args.order (g.E.Lengths.list c.args.shape.now) c.in_ok-strides.ensures.is_view
    c.in_ok-strides.ensures.fits)

pub returns-clause-kept : goal.returns-clause-kept
returns-clause-kept g c = rw (reshaped g c) (Descends-reshape_of c.args.order (g.E.Lengths.list c.args.shape.now)
    c.in_ok-strides.ensures.is_view c.in_ok-strides.ensures.fits)
