-- What was written is the view with the axis backwards.
use Rattle.std.proofs.Common.{rules, ◌≡◌, ◌-◌, ◌<◌, length, set, pos, ◌+ℤ◌, ◌*ℤ◌, get_or, ap, ◌∙◌, arith, refl}
use Rattle.std.proofs.lemmas.List.{length-set, map-set}
use Rattle.nd_base.proofs.Laws.Definitions.{magnitude, signed}
use Rattle.nd_base.proofs.Laws.NonzeroSize.{length_le_nonzero_size}
use Rattle.ndarray_layout.specs.Descends.{Descends}
use Rattle.ndarray_layout.specs.InvertedView.{inverted_of, invert_source, opposite_stride}
use Rattle.ndarray_layout.specs.View.{IsPlace, View, view_of}
use Rattle.ndarray_layout.proofs.OneAxis.{length_read, stride_read}
use Rattle.ndarray_layout.proofs.Laws.InvertedView.{inverted_start_within, Descends-inverted_of}
use Rattle.ndarray_layout.proofs.strided.Strided.invert_axis.Given.{Over}
use Rattle.ndarray_layout.proofs.strided.Strided.invert_axis.Goals as goal
use Rattle.ndarray_layout.proofs.strided.Strided.invert_axis.Goals.{After-saturating_sub, After-place_along_axis-self-inside}

-- the view as it was
abbrev here : (g : Over) → After-saturating_sub g → View
here g c = view_of c.self.inside.start (g.D.Lengths.list c.self.inside.dim) (g.D.Lengths.list c.self.inside.strides)

there : (g : Over) (c : After-saturating_sub g) → c.args.axis.0 < length (g.D.Lengths.list c.self.inside.dim)
there g c = search rules

len_is : (g : Over) (c : After-saturating_sub g) → c.axis_of-len.result ≡ get_or (here g c).shape c.args.axis.0 0
len_is g c = length_read (here g c).shape c.args.axis.0 (rw c.slice-2.ensures.list at c.axis_of-len.ensures)

stride_is : (g : Over) (c : After-saturating_sub g) → signed c.axis_of-stride.result ≡ get_or (here g c).strides c.args.axis.0 (pos 0)
stride_is g c =
    stride_read (g.D.Lengths.list c.self.inside.strides) c.args.axis.0 (rw c.slice-3.ensures.list at c.axis_of-stride.ensures)

last : (g : Over) (c : After-saturating_sub g) → c.saturating_sub.result ≡ get_or (here g c).shape c.args.axis.0 0 - 1
last g c = c.saturating_sub.ensures ∙ ap (λ len. len - 1) (len_is g c)

-- the last coordinate has a place
within : (g : Over) (c : After-saturating_sub g)
    → IsPlace (pos c.self.inside.start +ℤ (pos c.saturating_sub.result *ℤ signed c.axis_of-stride.result))
within g c = rw (last g c, stride_is g c) (inverted_start_within c.args.axis.0 (here g c) c.self.invariant (there g c))

pub place_along_axis-self-inside-requires-clause-small : goal.place_along_axis-self-inside-requires-clause-small
place_along_axis-self-inside-requires-clause-small g c =
    omega (arith, last g c, length_le_nonzero_size (here g c).shape c.args.axis.0, c.self.invariant.valid.size_fits)

pub place_along_axis-self-inside-requires-clause-there : goal.place_along_axis-self-inside-requires-clause-there
place_along_axis-self-inside-requires-clause-there g c = within g c

abbrev written : (g : Over) → After-place_along_axis-self-inside g → View
written g c = view_of c.place_along_axis-self-inside.result (g.D.Lengths.list c.self.inside.dim)
    (g.D.Lengths.list (g.D.Lengths.with_list c.self.inside.strides c.set_axis_of.new.lens))

-- the strides that were written
strides_are : (g : Over) (c : After-place_along_axis-self-inside g)
    → (written g c).strides
    ≡ set (here g c.before).strides c.args.axis.0 (opposite_stride (get_or (here g c.before).strides c.args.axis.0 (pos 0)))
strides_are g c =
    let strides = g.D.Lengths.list c.self.inside.strides in
    let axis = c.args.axis.0 in
    let new : c.set_axis_of.new.lens ≡ set strides axis c.opposite.result = rw c.slice_mut.ensures.list at c.set_axis_of.ensures in
    let listed : g.D.Lengths.list (g.D.Lengths.with_list c.self.inside.strides c.set_axis_of.new.lens)
    ≡ set strides axis c.opposite.result =
    g.met.D.Lengths.list_of_with_list c.self.inside.strides c.set_axis_of.new.lens
    (ap length new ∙ length-set strides axis c.opposite.result) ∙ new in
    rw listed (map-set signed strides axis c.opposite.result
    ∙ ap (set (here g c.before).strides axis) (c.opposite.ensures ∙ ap opposite_stride (stride_is g c.before)))

made : (g : Over) (c : After-place_along_axis-self-inside g) → written g c ≡ inverted_of c.args.axis.0 (here g c.before)
made g c =
    let start = ap magnitude (rw (last g c.before, stride_is g c.before) at c.place_along_axis-self-inside.ensures) in
    rw (start, strides_are g c) refl

-- so it is a view of the same data
kept : (g : Over) (c : After-place_along_axis-self-inside g)
    → Descends (invert_source c.args.axis.0 (here g c.before).shape) (here g c.before) (written g c)
kept g c = rw (made g c) (Descends-inverted_of c.args.axis.0 (here g c.before) c.self.invariant (there g c.before))

pub invariant_of-self : goal.invariant_of-self
invariant_of-self g c = (kept g c.before).is_view

pub returns-clause-inverted : goal.returns-clause-inverted
returns-clause-inverted g c = rw (← c.self.view_is) (made g c.before)

pub returns-clause-is_view : goal.returns-clause-is_view
returns-clause-is_view g c = (kept g c.before).is_view

pub returns-clause-kept : goal.returns-clause-kept
returns-clause-kept g c = rw (← c.self.view_is) (kept g c.before)
