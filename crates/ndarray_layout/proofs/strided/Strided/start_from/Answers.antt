-- The part begins where its first coordinate does.
use Rattle.std.proofs.Common.{◌≡◌, inl, inr, None, pos, ◌+ℤ◌, ◌*ℤ◌, get_or, arith, refl, ◌∙◌}
use Rattle.nd_base.proofs.Laws.Definitions.{signed}
use Rattle.nd_base.proofs.Laws.NonzeroSize.{length_le_nonzero_size}
use Rattle.ndarray_layout.specs.SplitView.{split_fault, second_start}
use Rattle.ndarray_layout.specs.View.{View, view_of}
use Rattle.ndarray_layout.proofs.AxisByAxis.{range_cases}
use Rattle.ndarray_layout.proofs.OneAxis.{length_read, stride_read}
use Rattle.ndarray_layout.proofs.Laws.SplitView.{second_start_within}
use Rattle.ndarray_layout.proofs.strided.Strided.start_from.Given.{Over}
use Rattle.ndarray_layout.proofs.strided.Strided.start_from.Goals as goal
use Rattle.ndarray_layout.proofs.strided.Strided.start_from.Goals.{After-moved_start}

abbrev here : (g : Over) → After-moved_start g → View
here g c = view_of c.self.inside.start (g.D.Lengths.list c.self.inside.dim) (g.D.Lengths.list c.self.inside.strides)

fits : (g : Over) (c : After-moved_start g) → split_fault (here g c).shape c.args.axis.0 c.args.index ≡ None
fits g c = rw (← c.self.view_is) at c.requires

len_is : (g : Over) (c : After-moved_start g) → c.axis_of-len.result ≡ get_or (here g c).shape c.args.axis.0 0
len_is g c = length_read (here g c).shape c.args.axis.0 (rw c.slice.ensures.list at c.axis_of-len.ensures)

begins : (g : Over) (c : After-moved_start g)
    → pos c.self.inside.start +ℤ (pos c.moved_start.result *ℤ signed c.axis_of-stride.result)
    ≡ second_start c.args.axis.0 c.args.index (here g c)
begins g c =
    let stride =
    stride_read (g.D.Lengths.list c.self.inside.strides) c.args.axis.0 (rw c.slice-2.ensures.list at c.axis_of-stride.ensures) in
    rw (c.moved_start.ensures, len_is g c, stride) refl

pub place_along_axis-requires-clause-small : goal.place_along_axis-requires-clause-small
place_along_axis-requires-clause-small g c = elim (range_cases c.args.index c.axis_of-len.result) [
  | inl some ↦ omega (
    arith,
    c.moved_start.ensures,
    some.0,
    some.1,
    len_is g c,
    length_le_nonzero_size (here g c).shape c.args.axis.0,
    c.self.invariant.valid.size_fits,
  )
  | inr none ↦ omega (arith, c.moved_start.ensures, none.1)
]

pub place_along_axis-requires-clause-there : goal.place_along_axis-requires-clause-there
place_along_axis-requires-clause-there g c =
    rw (begins g c) (second_start_within c.args.axis.0 c.args.index (here g c) c.self.invariant (fits g c))

pub returns : goal.returns
returns g c = rw (← c.self.view_is) (c.place_along_axis.ensures ∙ begins g c.before)
