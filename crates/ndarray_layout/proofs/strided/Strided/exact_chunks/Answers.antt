-- What was written is the view of all chunks.
use Rattle.std.proofs.Common.{◌≡◌, None, sym, refl}
use Rattle.ndarray_layout.specs.ChunksView.{chunk_source, chunks_fault, chunks_of}
use Rattle.ndarray_layout.specs.Descends.{Descends}
use Rattle.ndarray_layout.specs.View.{View, view_of}
use Rattle.ndarray_layout.proofs.Laws.ChunksView.{Descends-chunks_of}
use Rattle.ndarray_layout.proofs.strided.Strided.exact_chunks.Given.{Over}
use Rattle.ndarray_layout.proofs.strided.Strided.exact_chunks.Goals as goal
use Rattle.ndarray_layout.proofs.strided.Strided.exact_chunks.Goals.{In_ok-dim}

-- the view as it is kept, and the one that is written
abbrev here : (g : Over) → In_ok-dim g → View
here g c = view_of c.self.inside.start (g.D.Lengths.list c.self.inside.dim) (g.D.Lengths.list c.self.inside.strides)

abbrev written : (g : Over) → In_ok-dim g → View
written g c = view_of c.self.inside.start (g.E.Lengths.list c.in_ok-dim.dim) (g.E.Lengths.list c.in_ok-dim.strides)

chunks : (g : Over) (c : In_ok-dim g) → written g c ≡ chunks_of (g.D.Lengths.list c.args.chunk.now) (here g c)
chunks g c = rw (c.in_ok-dim.ensures.shape, c.in_ok-dim.ensures.strides, c.slice-shape.ensures.list, c.slice-strides.ensures.list) refl

kept : (g : Over) (c : In_ok-dim g) → Descends (chunk_source (g.D.Lengths.list c.args.chunk.now)) (here g c) (written g c)
kept g c =
    let none : chunks_fault g.E.FixedCount.NDIM (here g c).shape (g.D.Lengths.list c.args.chunk.now) ≡ None =
    rw (c.slice-shape.ensures.list) at (sym c.in_ok-dim.ensures.fault) in
    rw (chunks g c) (Descends-chunks_of g.E.FixedCount.NDIM (g.D.Lengths.list c.args.chunk.now) c.self.invariant none)

pub invariant_of-result : goal.invariant_of-result
invariant_of-result g c = (kept g c).is_view

pub returns-clause-chunks : goal.returns-clause-chunks
returns-clause-chunks g c = rw (← c.self.view_is) (chunks g c)

pub returns-clause-kept : goal.returns-clause-kept
returns-clause-kept g c = rw (← c.self.view_is) (kept g c)
