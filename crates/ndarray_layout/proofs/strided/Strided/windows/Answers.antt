-- What was written is the view of all windows.
use Rattle.std.proofs.Common.{◌≡◌, None, length, sym, refl}
use Rattle.ndarray_layout.specs.Descends.{IsViewOf}
use Rattle.ndarray_layout.specs.View.{View, view_of}
use Rattle.ndarray_layout.specs.WindowsView.{window_source, windows_fault, windows_of}
use Rattle.ndarray_layout.proofs.Laws.WindowsView.{IsViewOf-windows_of}
use Rattle.ndarray_layout.proofs.strided.Strided.windows.Given.{Over}
use Rattle.ndarray_layout.proofs.strided.Strided.windows.Goals as goal
use Rattle.ndarray_layout.proofs.strided.Strided.windows.Goals.{In_ok-dim}

-- the view as it is kept, and the one that is written
abbrev here : (g : Over) → In_ok-dim g → View
here g c = view_of c.self.inside.start (g.D.Lengths.list c.self.inside.dim) (g.D.Lengths.list c.self.inside.strides)

abbrev written : (g : Over) → In_ok-dim g → View
written g c = view_of c.self.inside.start (g.E.Lengths.list c.in_ok-dim.dim) (g.E.Lengths.list c.in_ok-dim.strides)

windows : (g : Over) (c : In_ok-dim g) → written g c ≡ windows_of (g.D.Lengths.list c.args.window.now) (here g c)
windows g c = rw (c.in_ok-dim.ensures.shape, c.in_ok-dim.ensures.strides, c.slice-shape.ensures.list, c.slice-strides.ensures.list) refl

kept : (g : Over) (c : In_ok-dim g) → IsViewOf (window_source (length (here g c).shape)) (here g c) (written g c)
kept g c =
    let none : windows_fault g.E.FixedCount.NDIM (here g c).shape (g.D.Lengths.list c.args.window.now) ≡ None =
    rw (c.slice-shape.ensures.list) at (sym c.in_ok-dim.ensures.fault) in
    rw (windows g c) (IsViewOf-windows_of g.E.FixedCount.NDIM (g.D.Lengths.list c.args.window.now) c.self.invariant none)

pub invariant_of-result : goal.invariant_of-result
invariant_of-result g c = (kept g c).is_view

pub returns-clause-windows : goal.returns-clause-windows
returns-clause-windows g c = rw (← c.self.view_is) (windows g c)

pub returns-clause-kept : goal.returns-clause-kept
returns-clause-kept g c = rw (← c.self.view_is) (kept g c)
