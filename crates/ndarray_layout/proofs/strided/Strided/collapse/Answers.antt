-- What was written is the collapse of the view, and so all that is known of collapses holds of it.
use Rattle.std.proofs.Common.{rules, ◌≡◌, None, FitsSigned, pos, ◌+ℤ◌, ◌*ℤ◌, get_or, ap, ◌∙◌, refl}
use Rattle.std.specs.Int.{w64}
use Rattle.std.proofs.Math.ListN.{get_or-map}
use Rattle.std.proofs.lemmas.Int.{to_z-of_z}
use Rattle.nd_base.proofs.Laws.Definitions.{magnitude, signed}
use Rattle.ndarray_layout.specs.CollapsedView.{collapse_fault, collapse_of, collapse_source}
use Rattle.ndarray_layout.specs.Descends.{Descends}
use Rattle.ndarray_layout.specs.View.{IsPlace, View, view_of}
use Rattle.ndarray_layout.proofs.Laws.CollapsedView.{collapsed_start_within, Descends-collapse_of}
use Rattle.ndarray_layout.proofs.strided.Strided.collapse.Given.{Over}
use Rattle.ndarray_layout.proofs.strided.Strided.collapse.Goals.{After-do_collapse_axis-offset, After-offset_place-self-inside}
use Rattle.ndarray_layout.proofs.strided.Strided.collapse.Goals as goal

-- the view as it is kept
abbrev here : (g : Over) → After-do_collapse_axis-offset g → View
here g c = view_of c.self.inside.start (g.D.Lengths.list c.self.inside.dim) (g.D.Lengths.list c.self.inside.strides)

-- the coordinate can be taken
fits : (g : Over) (c : After-do_collapse_axis-offset g) → collapse_fault (here g c).shape c.args.axis.0 c.args.index ≡ None
fits g c = rw c.slice.ensures.list at (c.if-not-has_coordinate.ensures.0 refl)

-- and lies so far from the first
moved : (g : Over) (c : After-do_collapse_axis-offset g)
    → c.do_collapse_axis-offset.result ≡ pos c.args.index *ℤ get_or (here g c).strides c.args.axis.0 (pos 0)
moved g c =
    let known = rw c.index.ensures at c.do_collapse_axis-offset.ensures.offset in
    rw (get_or-map signed (g.D.Lengths.list c.self.inside.strides) c.args.axis.0 0) known

-- so the first index that is left has a place
within : (g : Over) (c : After-do_collapse_axis-offset g)
    → IsPlace (pos c.self.inside.start +ℤ c.do_collapse_axis-offset.result)
within g c = rw (moved g c) (collapsed_start_within c.args.axis.0 c.args.index (here g c) c.self.invariant (fits g c))

pub offset_place-self-inside-requires-clause-there : goal.offset_place-self-inside-requires-clause-there
offset_place-self-inside-requires-clause-there g c =
    let f : FitsSigned w64 c.do_collapse_axis-offset.result = search rules in
    rw (to_z-of_z w64 c.do_collapse_axis-offset.result f) (within g c)

abbrev written : (g : Over) → After-offset_place-self-inside g → View
written g c = view_of c.offset_place-self-inside.result (g.D.Lengths.list c.do_collapse_axis-offset.new.dims)
    (g.D.Lengths.list c.self.inside.strides)

-- the start and the shape that were written are those of the collapse
collapsed : (g : Over) (c : After-offset_place-self-inside g) → written g c ≡ collapse_of c.args.axis.0 c.args.index (here g c.before)
collapsed g c =
    let offset = c.do_collapse_axis-offset.result in
    let f : FitsSigned w64 offset = search rules in
    let start = ap magnitude (c.offset_place-self-inside.ensures ∙ ap (λ z. pos c.self.inside.start +ℤ z) (to_z-of_z w64 offset f
    ∙ moved g c.before)) in
    let shape = rw c.index.ensures at c.do_collapse_axis-offset.ensures.dims in
    rw (start, shape) refl

-- so it is a view of the same data
kept : (g : Over) (c : After-offset_place-self-inside g)
    → Descends (collapse_source c.args.axis.0 c.args.index) (here g c.before) (written g c)
kept g c = rw (collapsed g c) (Descends-collapse_of c.args.axis.0 c.args.index (here g c.before) c.self.invariant (fits g c.before))

pub invariant_of-self : goal.invariant_of-self
invariant_of-self g c = (kept g c.before).is_view

pub returns-clause-is_view : goal.returns-clause-is_view
returns-clause-is_view g c = (kept g c.before).is_view

pub returns-clause-kept : goal.returns-clause-kept
returns-clause-kept g c = rw (← c.self.view_is) (kept g c.before)
