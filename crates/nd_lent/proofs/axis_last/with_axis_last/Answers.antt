-- Each swap moves the axis on by one position, and the last one makes it the last; no swap fails.
use Rattle.std.proofs.Common.{rules, ◌≡◌, ◌<◌, ap, length, subst, sym, ◌∙◌, arith}
use Rattle.ndarray_layout.specs.Descends.{Descends}
use Rattle.ndarray_layout.specs.PermutedView.{permuted_of}
use Rattle.nd_lent.specs.AxisLast.{axis_last_of, axis_last_source}
use Rattle.nd_lent.proofs.AxisLast.{Descends-axis_last_of, axes_moved, axes_there, view_moved_last, view_moved_on, view_not_moved}
use Rattle.nd_lent.proofs.axis_last.with_axis_last.Given.{Over}
use Rattle.nd_lent.proofs.axis_last.with_axis_last.Goals as goal
use Rattle.nd_lent.proofs.axis_last.with_axis_last.Goals.{After-loop-position}

pub loop-position-init : goal.loop-position-init
loop-position-init g c =
    let there : c.args.axis.0 < length c.args.view.shape = search rules in
    record {
      there = there;
      moved = view_not_moved c.args.view c.args.axis.0 there c.dim.ensures.is_view
          ∙ ap (λ position. permuted_of (axes_moved (length c.args.view.shape) c.args.axis.0 position) c.args.view)
          (sym c.index-position.ensures);
    }

pub returns-in_err-swap_axes-clause-fault : goal.returns-in_err-swap_axes-clause-fault
returns-in_err-swap_axes-clause-fault g c =
    let inside = c.loop-position.invariant in
    let none = axes_there c.args.view c.args.axis.0 inside.there c.loop-position.position
    (omega (arith, c.loop-position-test.true, c.ndim-position-end.ensures.count, ap length c.dim-2.ensures.list)) inside.moved in
    let fault = c.in_err-swap_axes.ensures.fault in
    absurd cc

pub loop-position-preserved : goal.loop-position-preserved
loop-position-preserved g c =
    let inside = c.loop-position.invariant in
    record {
      there = inside.there;
      moved = view_moved_on c.args.view c.args.axis.0 inside.there c.loop-position.position
          (omega (arith, c.loop-position-test.true, c.ndim-position-end.ensures.count, ap length c.dim-2.ensures.list)) inside.moved
          c.in_ok-swap_axes.ensures.swapped;
    }

-- after the last swap it is last
is_last : (g : Over) (c : After-loop-position g) → c.loop-position.view ≡ axis_last_of c.args.axis.0 c.args.view
is_last g c =
    let inside = c.loop-position.invariant in
    let many = c.ndim-position-end.ensures.count ∙ ap length c.dim-2.ensures.list in
    view_moved_last c.args.view c.args.axis.0 inside.there
    (omega (arith, inside.there, c.loop-position-test.false, c.loop-position.auto, many)) inside.moved

pub returns-clause-view : goal.returns-clause-view
returns-clause-view g c = is_last g (goal.at.returns-clause-view g c).After-loop-position

pub returns-clause-kept : goal.returns-clause-kept
returns-clause-kept g c =
    let inside = c.loop-position.invariant in
    subst (Descends (axis_last_source (length c.args.view.shape) c.args.axis.0) c.args.view)
    (sym (is_last g (goal.at.returns-clause-kept g c).After-loop-position))
    (Descends-axis_last_of c.args.view c.args.axis.0 inside.there c.dim.ensures.is_view)
