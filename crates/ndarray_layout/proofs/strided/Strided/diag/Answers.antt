-- What was written is the diagonal of the view.
use Rattle.std.proofs.Common.{◌≡◌, length, refl}
use Rattle.ndarray_layout.specs.Descends.{Descends}
use Rattle.ndarray_layout.specs.DiagonalView.{diagonal_of, diagonal_source}
use Rattle.ndarray_layout.specs.View.{View, view_of}
use Rattle.ndarray_layout.proofs.Laws.DiagonalView.{Descends-diagonal_of}
use Rattle.ndarray_layout.proofs.strided.Strided.diag.Given.{Over}
use Rattle.ndarray_layout.proofs.strided.Strided.diag.Goals as goal
use Rattle.ndarray_layout.proofs.strided.Strided.diag.Goals.{After-new_ix1-2}

-- the view as it is kept
abbrev here : (g : Over) → After-new_ix1-2 g → View
here g c = view_of c.self.inside.start (g.D.Lengths.list c.self.inside.dim) (g.D.Lengths.list c.self.inside.strides)

abbrev written : (g : Over) → After-new_ix1-2 g → View
written g c = view_of c.self.inside.start c.new_ix1.result.index c.new_ix1-2.result.index

diagonal : (g : Over) (c : After-new_ix1-2 g) → written g c ≡ diagonal_of (here g c)
diagonal g c =
    rw (
      c.new_ix1.ensures,
      c.new_ix1-2.ensures,
      c.diagonal_stride-stride.ensures,
      c.diagonal_len-len.ensures,
      c.slice-shape.ensures.list,
      c.slice-strides.ensures.list,
    ) refl

kept : (g : Over) (c : After-new_ix1-2 g) → Descends (diagonal_source (length (here g c).shape)) (here g c) (written g c)
kept g c = rw (diagonal g c) (Descends-diagonal_of c.self.invariant)

pub invariant_of-result : goal.invariant_of-result
invariant_of-result g c = (kept g c).is_view

pub returns-clause-diagonal : goal.returns-clause-diagonal
returns-clause-diagonal g c = rw (← c.self.view_is) (diagonal g c)

pub returns-clause-kept : goal.returns-clause-kept
returns-clause-kept g c = rw (← c.self.view_is) (kept g c)
