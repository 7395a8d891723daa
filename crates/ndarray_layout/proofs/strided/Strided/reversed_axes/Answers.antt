-- What was written is the transpose of the view.
use Rattle.std.proofs.Common.{◌≡◌, length, reverse, sym, ap, subst, ◌∙◌}
use Rattle.nd_base.specs.Signed.{signed}
use Rattle.nd_base.proofs.Laws.Lists.{map-reverse}
use Rattle.ndarray_layout.specs.Descends.{Descends}
use Rattle.ndarray_layout.specs.PermutedView.{reversed_of}
use Rattle.ndarray_layout.specs.View.{IsView, view_of}
use Rattle.ndarray_layout.proofs.Laws.PermutedView.{Descends-reversed_of}
use Rattle.ndarray_layout.proofs.strided.Strided.reversed_axes.Given.{Over}
use Rattle.ndarray_layout.proofs.strided.Strided.reversed_axes.Goals as goal
use Rattle.ndarray_layout.proofs.strided.Strided.reversed_axes.Goals.{After-reverse-2}

-- what was written is the transpose
made : (g : Over) (c : After-reverse-2 g)
    → view_of c.view.inside.start (g.D.Lengths.list (g.D.Lengths.with_list c.view.inside.dim c.reverse.new.self))
    (g.D.Lengths.list (g.D.Lengths.with_list c.view.inside.strides c.reverse-2.new.self)) ≡ reversed_of c.args.self
made g c =
    let lengths = g.met.D.Lengths.list_of_with_list c.view.inside.dim c.reverse.new.self
    (c.reverse.ensures.len ∙ ap length c.slice_mut.ensures.list) ∙ c.reverse.ensures.after ∙ ap reverse c.slice_mut.ensures.list in
    let along = g.met.D.Lengths.list_of_with_list c.view.inside.strides c.reverse-2.new.self
    (c.reverse-2.ensures.len ∙ ap length c.slice_mut-2.ensures.list) ∙ c.reverse-2.ensures.after
    ∙ ap reverse c.slice_mut-2.ensures.list in
    rw (← c.view.view_is, lengths, along)
    (ap (λ strides. record { start = c.view.inside.start; shape = reverse (g.D.Lengths.list c.view.inside.dim); strides = strides })
    (map-reverse signed (g.D.Lengths.list c.view.inside.strides)))

whole : (g : Over) (c : After-reverse-2 g) → IsView c.args.self
whole g c = subst IsView c.view.view_is c.view.invariant

kept : (g : Over) (c : After-reverse-2 g) → Descends reverse c.args.self (reversed_of c.args.self)
kept g c = Descends-reversed_of c.args.self (whole g c)

pub invariant_of-view : goal.invariant_of-view
invariant_of-view g c = subst IsView (sym (made g c.before)) (kept g c.before).is_view

pub returns-clause-reversed : goal.returns-clause-reversed
returns-clause-reversed g c = made g c.before

pub returns-clause-kept : goal.returns-clause-kept
returns-clause-kept g c = subst (Descends reverse c.args.self) (sym (made g c.before)) (kept g c.before)
