-- What was written is the view with its axes in the order.
use Rattle.std.proofs.Common.{rules, ◌≡◌, true, length, sym, ap, ◌∙◌}
use Rattle.nd_dim.specs.AxesInOrder.{axis_numbers, is_axis_order}
use Rattle.nd_dim.specs.AxesInOrder.{reordered as in_order}
use Rattle.ndarray_layout.specs.Descends.{Descends}
use Rattle.ndarray_layout.specs.PermutedView.{permuted_of, permute_source}
use Rattle.ndarray_layout.specs.View.{View, view_of}
use Rattle.ndarray_layout.proofs.Laws.PermutedView.{no_fault_of_order, order_of_no_fault, signed_in_order, Descends-permuted_of}
use Rattle.ndarray_layout.proofs.strided.Strided.permuted_axes.Given.{Over}
use Rattle.ndarray_layout.proofs.strided.Strided.permuted_axes.Goals as goal
use Rattle.ndarray_layout.proofs.strided.Strided.permuted_axes.Goals.{In_ok-reordered}

-- the view as it was
abbrev here : (g : Over) → In_ok-reordered g → View
here g c = view_of c.self.inside.start (g.D.Lengths.list c.self.inside.dim) (g.D.Lengths.list c.self.inside.strides)

abbrev written : (g : Over) → In_ok-reordered g → View
written g c = view_of c.self.inside.start (g.D.Lengths.list (g.D.Lengths.with_list c.in_ok-dim.dim c.write_reordered.new.moved))
    (g.D.Lengths.list c.in_ok-reordered.field-0)

order : (g : Over) (c : In_ok-reordered g)
    → is_axis_order (length (g.D.Lengths.list c.self.inside.dim)) (axis_numbers c.args.axes.now) ≡ true
order g c = order_of_no_fault (g.D.Lengths.list c.self.inside.dim) (axis_numbers c.args.axes.now) (sym c.in_ok-dim.ensures.fault)

-- the lengths that were written
lengths : (g : Over) (c : In_ok-reordered g)
    → g.D.Lengths.list (g.D.Lengths.with_list c.in_ok-dim.dim c.write_reordered.new.moved)
    ≡ in_order 0 (axis_numbers c.args.axes.now) (g.D.Lengths.list c.self.inside.dim)
lengths g c =
    let long : length c.write_reordered.new.moved ≡ length (g.D.Lengths.list c.in_ok-dim.dim) = search rules in
    g.met.D.Lengths.list_of_with_list c.in_ok-dim.dim c.write_reordered.new.moved long
    ∙ rw c.slice.ensures.list at c.write_reordered.ensures

-- what was written has the axes in the order
made : (g : Over) (c : In_ok-reordered g) → written g c ≡ permuted_of (axis_numbers c.args.axes.now) (here g c)
made g c =
    let axes = axis_numbers c.args.axes.now in
    rw (lengths g c, c.in_ok-reordered.ensures.list)
    (ap (λ strides. record { start = c.self.inside.start; shape = in_order 0 axes (g.D.Lengths.list c.self.inside.dim); strides = strides })
    (signed_in_order axes (g.D.Lengths.list c.self.inside.strides)))

kept : (g : Over) (c : In_ok-reordered g) → Descends (permute_source (axis_numbers c.args.axes.now)) (here g c) (written g c)
kept g c =
    let axes = axis_numbers c.args.axes.now in
    let view = here g c in
    rw (made g c) (Descends-permuted_of axes view c.self.invariant (no_fault_of_order view.shape axes (order g c)))

pub invariant_of-result : goal.invariant_of-result
invariant_of-result g c = (kept g c).is_view

pub returns-clause-permuted : goal.returns-clause-permuted
returns-clause-permuted g c = rw (← c.self.view_is) (made g c)

pub returns-clause-kept : goal.returns-clause-kept
returns-clause-kept g c = rw (← c.self.view_is) (kept g c)
