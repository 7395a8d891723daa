-- What was written is the view with the new axis.
use Rattle.std.proofs.Common.{rules, ◌≡◌, ◌≤◌, length, refl}
use Rattle.nd_base.specs.Signed.{signed}
use Rattle.ndarray_layout.specs.Descends.{Descends}
use Rattle.ndarray_layout.specs.InsertedView.{inserted_of, insert_source}
use Rattle.ndarray_layout.specs.View.{View, view_of}
use Rattle.ndarray_layout.proofs.OneAxis.{map-insert}
use Rattle.ndarray_layout.proofs.Laws.InsertedView.{Descends-inserted_of}
use Rattle.ndarray_layout.proofs.strided.Strided.insert_axis.Given.{Over}
use Rattle.ndarray_layout.proofs.strided.Strided.insert_axis.Goals as goal
use Rattle.ndarray_layout.proofs.strided.Strided.insert_axis.Goals.{In_ok-strides}

-- the view as it was
abbrev here : (g : Over) → In_ok-strides g → View
here g c = view_of c.self.inside.start (g.D.Lengths.list c.self.inside.dim) (g.D.Lengths.list c.self.inside.strides)

abbrev written : (g : Over) → In_ok-strides g → View
written g c = view_of c.self.inside.start (g.D.Larger.Lengths.list c.in_ok-dim.dim) (g.D.Larger.Lengths.list c.in_ok-strides.strides)

within : (g : Over) (c : In_ok-strides g) → c.args.axis.0 ≤ length (g.D.Lengths.list c.self.inside.dim)
within g c = search rules

made : (g : Over) (c : In_ok-strides g) → written g c ≡ inserted_of c.args.axis.0 (here g c)
made g c =
    rw (
      c.in_ok-dim.ensures.list,
      c.in_ok-strides.ensures.list,
      map-insert signed (g.D.Lengths.list c.self.inside.strides) c.args.axis.0 1,
    ) refl

kept : (g : Over) (c : In_ok-strides g) → Descends (insert_source c.args.axis.0) (here g c) (written g c)
kept g c = rw (made g c) (Descends-inserted_of c.args.axis.0 (here g c) c.self.invariant (within g c))

pub invariant_of-result : goal.invariant_of-result
invariant_of-result g c = (kept g c).is_view

pub returns-clause-inserted : goal.returns-clause-inserted
returns-clause-inserted g c = rw (← c.self.view_is) (made g c)

pub returns-clause-kept : goal.returns-clause-kept
returns-clause-kept g c = rw (← c.self.view_is) (kept g c)
