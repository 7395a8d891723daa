-- What was written is the slice of the view, and so all that is known of slices holds of it.
use Rattle.std.proofs.Common.{rules, ◌≡◌, None, FitsSigned, pos, ◌+ℤ◌, sym, ap, ◌∙◌, refl}
use Rattle.std.specs.Int.{w64}
use Rattle.std.proofs.lemmas.Int.{to_z-of_z}
use Rattle.nd_base.proofs.Laws.Definitions.{magnitude}
use Rattle.nd_slice.specs.SliceFault.{argument_fault}
use Rattle.nd_slice.specs.Selected.{selected}
use Rattle.ndarray_layout.specs.Descends.{Descends}
use Rattle.ndarray_layout.specs.SlicedView.{slice_of}
use Rattle.ndarray_layout.specs.View.{IsPlace, View, view_of}
use Rattle.ndarray_layout.proofs.Laws.SlicedView.{no_argument_fault, sliced_start_within, Descends-slice_of}
use Rattle.ndarray_layout.proofs.strided.Strided.slice.Given.{Over}
use Rattle.ndarray_layout.proofs.strided.Strided.slice.Goals as goal
use Rattle.ndarray_layout.proofs.strided.Strided.slice.Goals.{After-struct_told-1, After-offset_place-start}

-- the view as it is kept
abbrev here : (g : Over) → After-struct_told-1 g → View
here g c = view_of c.self.inside.start (g.D.Lengths.list c.self.inside.dim) (g.D.Lengths.list c.self.inside.strides)

-- the argument fits it
fits : (g : Over) (c : After-struct_told-1 g) → argument_fault c.args.fit (here g c).shape (g.S.SliceElems.list c.args.slices.now) ≡ None
fits g c =
    let none = rw (c.slice-shape.ensures.list, c.elems.ensures) at (sym c.in_ok-dim.ensures.fault) in
    no_argument_fault c.args.fit g.E.FixedCount.NDIM _ _ none

-- the first index that is left lies so far from the first of the view
moved : (g : Over) (c : After-struct_told-1 g) → IsPlace (pos c.self.inside.start +ℤ c.in_ok-dim.offset)
moved g c =
    rw (c.in_ok-dim.ensures.offset, c.slice-shape.ensures.list, c.slice-strides.ensures.list, c.elems.ensures)
    (sliced_start_within c.args.fit (g.S.SliceElems.list c.args.slices.now) (here g c) c.self.invariant (fits g c))

pub returns-clause-fault : goal.returns-clause-fault
returns-clause-fault g c = search rules

pub returns-clause-memory : goal.returns-clause-memory
returns-clause-memory g c = λ fits few. search rules

pub offset_place-start-requires-clause-there : goal.offset_place-start-requires-clause-there
offset_place-start-requires-clause-there g c =
    let f : FitsSigned w64 c.in_ok-dim.offset = search rules in
    rw (to_z-of_z w64 c.in_ok-dim.offset f) (moved g c)

-- the start, the shape and the strides that are written are those of the slice
sliced : (g : Over) (c : After-offset_place-start g)
    → view_of c.offset_place-start.result (g.E.Lengths.list c.in_ok-dim.dim) (g.E.Lengths.list c.in_ok-dim.strides)
    ≡ slice_of c.args.fit (g.S.SliceElems.list c.args.slices.now) (here g c.before)
sliced g c =
    let f : FitsSigned w64 c.in_ok-dim.offset = search rules in
    let start = ap magnitude (c.offset_place-start.ensures ∙ ap (λ z. pos c.self.inside.start +ℤ z) (to_z-of_z w64 c.in_ok-dim.offset f
    ∙ c.in_ok-dim.ensures.offset)) in
    rw (
      start,
      c.in_ok-dim.ensures.shape,
      c.in_ok-dim.ensures.strides,
      c.slice-shape.ensures.list,
      c.slice-strides.ensures.list,
      c.elems.ensures,
    ) refl

-- so it is a view of the same data
kept : (g : Over) (c : After-offset_place-start g)
    → Descends (selected c.args.fit (g.S.SliceElems.list c.args.slices.now) (here g c.before).shape) (here g c.before)
    (view_of c.offset_place-start.result (g.E.Lengths.list c.in_ok-dim.dim) (g.E.Lengths.list c.in_ok-dim.strides))
kept g c = rw (sliced g c) (Descends-slice_of c.args.fit (g.S.SliceElems.list c.args.slices.now) (here g c.before) c.self.invariant
    (fits g c.before))

pub invariant_of-result : goal.invariant_of-result
invariant_of-result g c = (kept g c).is_view

pub returns-clause-sliced : goal.returns-clause-sliced
returns-clause-sliced g c = rw (← c.self.view_is) (sliced g c)

pub returns-clause-kept : goal.returns-clause-kept
returns-clause-kept g c = rw (← c.self.view_is) (kept g c)
