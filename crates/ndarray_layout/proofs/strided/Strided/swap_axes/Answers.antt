-- What was written is the view with the two axes exchanged.
use Rattle.std.proofs.Common.{rules, arith, ◌≡◌, ◌<◌, length, ap, ◌∙◌}
use Rattle.std.specs.List.{swap}
use Rattle.std.proofs.lemmas.List.{length-map}
use Rattle.nd_base.specs.Signed.{signed}
use Rattle.ndarray_layout.specs.Descends.{Descends}
use Rattle.ndarray_layout.specs.PermutedView.{swapped_of}
use Rattle.ndarray_layout.specs.View.{View, view_of}
use Rattle.ndarray_layout.proofs.Laws.PermutedView.{map-swap, no_fault_of_axes, Descends-swapped_of}
use Rattle.ndarray_layout.proofs.strided.Strided.swap_axes.Given.{Over}
use Rattle.ndarray_layout.proofs.strided.Strided.swap_axes.Goals as goal
use Rattle.ndarray_layout.proofs.strided.Strided.swap_axes.Goals.{After-swap-2}

first : (g : Over) (c : After-swap-2 g) → c.args.axis.0 < length (g.D.Lengths.list c.self.inside.dim)
first g c = search rules

second : (g : Over) (c : After-swap-2 g) → c.args.other.0 < length (g.D.Lengths.list c.self.inside.dim)
second g c = search rules

-- the view as it was
abbrev here : (g : Over) → After-swap-2 g → View
here g c = view_of c.self.inside.start (g.D.Lengths.list c.self.inside.dim) (g.D.Lengths.list c.self.inside.strides)

abbrev written : (g : Over) → After-swap-2 g → View
written g c = view_of c.self.inside.start (g.D.Lengths.list (g.D.Lengths.with_list c.self.inside.dim c.swap.new.self))
    (g.D.Lengths.list (g.D.Lengths.with_list c.self.inside.strides c.swap-2.new.self))

-- what was written has the axes exchanged
made : (g : Over) (c : After-swap-2 g) → written g c ≡ swapped_of c.args.axis.0 c.args.other.0 (here g c)
made g c =
    let dim = g.D.Lengths.list c.self.inside.dim in
    let strides = g.D.Lengths.list c.self.inside.strides in
    let lengths : g.D.Lengths.list (g.D.Lengths.with_list c.self.inside.dim c.swap.new.self) ≡ swap dim c.args.axis.0 c.args.other.0 =
    g.met.D.Lengths.list_of_with_list c.self.inside.dim c.swap.new.self (c.swap.ensures.len ∙ ap length c.slice_mut.ensures.list)
    ∙ rw (c.slice_mut.ensures.list, c.index.ensures, c.index-2.ensures) at c.swap.ensures.after in
    let along : g.D.Lengths.list (g.D.Lengths.with_list c.self.inside.strides c.swap-2.new.self)
    ≡ swap strides c.args.axis.0 c.args.other.0 =
    g.met.D.Lengths.list_of_with_list c.self.inside.strides c.swap-2.new.self (c.swap-2.ensures.len ∙ ap length c.slice_mut-2.ensures.list)
    ∙ rw (c.slice_mut-2.ensures.list, c.index-3.ensures, c.index-4.ensures) at c.swap-2.ensures.after in
    let counts = c.self.invariant.valid.same_count in
    let many = length-map strides signed in
    rw (lengths, along) (ap (λ signed_strides.
    record { start = c.self.inside.start; shape = swap dim c.args.axis.0 c.args.other.0; strides = signed_strides })
    (map-swap signed 0 strides c.args.axis.0 c.args.other.0 (omega (arith, first g c)) (omega (arith, second g c))))

kept : (g : Over) (c : After-swap-2 g) → Descends (λ index. swap index c.args.axis.0 c.args.other.0) (here g c) (written g c)
kept g c =
    let view = here g c in
    let fits = no_fault_of_axes view.shape c.args.axis.0 c.args.other.0 (first g c) (second g c) in
    rw (made g c) (Descends-swapped_of c.args.axis.0 c.args.other.0 view c.self.invariant fits)

pub invariant_of-self : goal.invariant_of-self
invariant_of-self g c = (kept g c.before).is_view

pub returns-clause-swapped : goal.returns-clause-swapped
returns-clause-swapped g c = rw (← c.self.view_is) (made g c.before)

pub returns-clause-is_view : goal.returns-clause-is_view
returns-clause-is_view g c = (kept g c.before).is_view

pub returns-clause-kept : goal.returns-clause-kept
returns-clause-kept g c = rw (← c.self.view_is) (kept g c.before)
