-- What was written is the view at the coordinate.
use Rattle.std.proofs.Common.{◌≡◌, None, pos, ◌+ℤ◌, ◌*ℤ◌, get_or, ap, ◌∙◌, refl}
use Rattle.nd_base.proofs.Laws.Definitions.{magnitude, signed}
use Rattle.ndarray_layout.specs.CollapsedView.{collapse_fault}
use Rattle.ndarray_layout.specs.Descends.{Descends}
use Rattle.ndarray_layout.specs.IndexedView.{indexed_of, index_source}
use Rattle.ndarray_layout.specs.View.{IsPlace, View, view_of}
use Rattle.ndarray_layout.proofs.OneAxis.{stride_read}
use Rattle.ndarray_layout.proofs.OneAxis.{map-remove}
use Rattle.ndarray_layout.proofs.Laws.CollapsedView.{collapsed_start_within}
use Rattle.ndarray_layout.proofs.Laws.IndexedView.{Descends-indexed_of, index_small}
use Rattle.ndarray_layout.proofs.strided.Strided.index_axis.Given.{Over}
use Rattle.ndarray_layout.proofs.strided.Strided.index_axis.Goals as goal
use Rattle.ndarray_layout.proofs.strided.Strided.index_axis.Goals.{After-axis_of-stride, After-place_along_axis-start}

-- the view as it was
abbrev here : (g : Over) → After-axis_of-stride g → View
here g c = view_of c.self.inside.start (g.D.Lengths.list c.self.inside.dim) (g.D.Lengths.list c.self.inside.strides)

-- the coordinate can be taken
fits : (g : Over) (c : After-axis_of-stride g) → collapse_fault (here g c).shape c.args.axis.0 c.args.index ≡ None
fits g c = rw c.slice.ensures.list at (c.if-not-has_coordinate.ensures.0 refl)

-- the stride is that of the axis
along : (g : Over) (c : After-axis_of-stride g) → signed c.axis_of-stride.result ≡ get_or (here g c).strides c.args.axis.0 (pos 0)
along g c =
    stride_read (g.D.Lengths.list c.self.inside.strides) c.args.axis.0 (rw c.slice-2.ensures.list at c.axis_of-stride.ensures)

-- so what is left begins at a place
within : (g : Over) (c : After-axis_of-stride g)
    → IsPlace (pos c.self.inside.start +ℤ (pos c.args.index *ℤ signed c.axis_of-stride.result))
within g c = rw (along g c) (collapsed_start_within c.args.axis.0 c.args.index (here g c) c.self.invariant (fits g c))

pub place_along_axis-start-requires-clause-small : goal.place_along_axis-start-requires-clause-small
place_along_axis-start-requires-clause-small g c =
    index_small c.args.axis.0 c.args.index (here g c) c.self.invariant (fits g c)

pub place_along_axis-start-requires-clause-there : goal.place_along_axis-start-requires-clause-there
place_along_axis-start-requires-clause-there g c = within g c

abbrev written : (g : Over) → After-place_along_axis-start g → View
written g c =
    view_of c.place_along_axis-start.result (g.D.Smaller.Lengths.list c.in_ok-dim.dim) (g.D.Smaller.Lengths.list c.in_ok-strides.strides)

made : (g : Over) (c : After-place_along_axis-start g) → written g c ≡ indexed_of c.args.axis.0 c.args.index (here g c.before)
made g c =
    let start = ap magnitude (c.place_along_axis-start.ensures
    ∙ ap (λ stride. pos c.self.inside.start +ℤ (pos c.args.index *ℤ stride)) (along g c.before)) in
    rw (
      start,
      c.in_ok-dim.ensures.list,
      c.in_ok-strides.ensures.list,
      map-remove signed (g.D.Lengths.list c.self.inside.strides) c.args.axis.0,
    ) refl

kept : (g : Over) (c : After-place_along_axis-start g) → Descends (index_source c.args.axis.0 c.args.index) (here g c.before) (written g c)
kept g c = rw (made g c) (Descends-indexed_of c.args.axis.0 c.args.index (here g c.before) c.self.invariant (fits g c.before))

pub invariant_of-result : goal.invariant_of-result
invariant_of-result g c = (kept g c).is_view

pub returns-clause-indexed : goal.returns-clause-indexed
returns-clause-indexed g c = rw (← c.self.view_is) (made g c)

pub returns-clause-kept : goal.returns-clause-kept
returns-clause-kept g c = rw (← c.self.view_is) (kept g c)
