-- What was written is the view of the first indices.
use Rattle.std.proofs.Common.{◌≡◌, None, sym, refl}
use Rattle.ndarray_layout.specs.WindowsView.{window_starts_of, windows_fault}
use Rattle.ndarray_layout.specs.View.{View, view_of}
use Rattle.ndarray_layout.proofs.Laws.BlockStarts.{HasBlocks-windows, IsViewOf-starts}
use Rattle.ndarray_layout.proofs.strided.Strided.window_starts.Given.{Over}
use Rattle.ndarray_layout.proofs.strided.Strided.window_starts.Goals as goal
use Rattle.ndarray_layout.proofs.strided.Strided.window_starts.Goals.{In_ok-dim}

-- the view as it is kept, and the one that is written
abbrev here : (g : Over) → In_ok-dim g → View
here g c = view_of c.self.inside.start (g.D.Lengths.list c.self.inside.dim) (g.D.Lengths.list c.self.inside.strides)

abbrev written : (g : Over) → In_ok-dim g → View
written g c = view_of c.self.inside.start (g.D.Lengths.list c.in_ok-dim.dim) (g.D.Lengths.list c.in_ok-dim.strides)

starts : (g : Over) (c : In_ok-dim g) → written g c ≡ window_starts_of (g.D.Lengths.list c.args.window.now) (here g c)
starts g c = rw (c.in_ok-dim.ensures.shape, c.in_ok-dim.ensures.strides, c.slice-shape.ensures.list, c.slice-strides.ensures.list) refl

pub invariant_of-result : goal.invariant_of-result
invariant_of-result g c =
    let none : windows_fault None (here g c).shape (g.D.Lengths.list c.args.window.now) ≡ None =
    rw (c.slice-shape.ensures.list) at (sym c.in_ok-dim.ensures.fault) in
    rw (starts g c) (IsViewOf-starts (HasBlocks-windows None (g.D.Lengths.list c.args.window.now) c.self.invariant none)).is_view

pub returns-clause-starts : goal.returns-clause-starts
returns-clause-starts g c = rw (← c.self.view_is) (starts g c)
