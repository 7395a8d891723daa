-- What was written is the broadcast view, and so all that is known of broadcast views holds of it.
use Rattle.std.proofs.Common.{◌≡◌, None, sym, refl}
use Rattle.ndarray_layout.specs.BroadcastView.{broadcast_fault, broadcast_of, broadcast_source}
use Rattle.ndarray_layout.specs.Descends.{IsViewOf}
use Rattle.ndarray_layout.specs.View.{View, view_of}
use Rattle.ndarray_layout.proofs.Laws.BroadcastView.{IsViewOf-broadcast_of}
use Rattle.ndarray_layout.proofs.strided.Strided.broadcast.Given.{Over}
use Rattle.ndarray_layout.proofs.strided.Strided.broadcast.Goals as goal
use Rattle.ndarray_layout.proofs.strided.Strided.broadcast.Goals.{In_ok-dim}

-- the view as it is kept, and the one that is written
abbrev here : (g : Over) → In_ok-dim g → View
here g c = view_of c.self.inside.start (g.D.Lengths.list c.self.inside.dim) (g.D.Lengths.list c.self.inside.strides)

abbrev written : (g : Over) → In_ok-dim g → View
written g c = view_of c.self.inside.start (g.E.Lengths.list c.in_ok-dim.dim) (g.E.Lengths.list c.in_ok-dim.strides)

broadcast : (g : Over) (c : In_ok-dim g) → written g c ≡ broadcast_of (g.E.Lengths.list c.args.shape.now) (here g c)
broadcast g c = rw (c.in_ok-dim.ensures.shape, c.in_ok-dim.ensures.strides, c.slice.ensures.list, c.slice-2.ensures.list) refl

kept : (g : Over) (c : In_ok-dim g) → IsViewOf (broadcast_source (here g c).shape) (here g c) (written g c)
kept g c =
    let none : broadcast_fault (g.E.Lengths.list c.args.shape.now) (here g c).shape
    ≡ None = rw (c.slice.ensures.list) at (sym c.in_ok-dim.ensures.fault) in
    rw (broadcast g c) (IsViewOf-broadcast_of (g.E.Lengths.list c.args.shape.now) c.self.invariant none)

pub invariant_of-result : goal.invariant_of-result
invariant_of-result g c = (kept g c).is_view

pub returns-clause-kept : goal.returns-clause-kept
returns-clause-kept g c = rw (← c.self.view_is) (kept g c)
