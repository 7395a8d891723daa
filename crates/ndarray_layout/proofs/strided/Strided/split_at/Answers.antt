-- What was written are the two parts of the view.
use Rattle.std.proofs.Common.{◌≡◌, None, ap, arith, refl}
use Rattle.nd_base.proofs.Laws.Definitions.{magnitude}
use Rattle.ndarray_layout.specs.Descends.{Descends}
use Rattle.ndarray_layout.specs.SplitView.{split_fault, first_part_of, second_part_of, second_source}
use Rattle.ndarray_layout.specs.View.{View, view_of}
use Rattle.ndarray_layout.proofs.OneAxis.{length_read}
use Rattle.ndarray_layout.proofs.Laws.SplitView.{cut_of_no_fault, Descends-first_part_of, Descends-second_part_of}
use Rattle.ndarray_layout.proofs.strided.Strided.split_at.Given.{Over}
use Rattle.ndarray_layout.proofs.strided.Strided.split_at.Goals as goal
use Rattle.ndarray_layout.proofs.strided.Strided.split_at.Goals.{After-with_length-2}

pub overflow_sub-len : goal.overflow_sub-len
overflow_sub-len g c =
    let shape = g.D.Lengths.list c.self.inside.dim in
    let none : split_fault shape c.args.axis.0 c.args.index ≡ None = rw c.slice.ensures.list at (c.if-not-can_split.ensures.0 refl) in
    let len = length_read shape c.args.axis.0 (rw c.slice-2.ensures.list at c.axis_of-len.ensures) in
    omega (arith, len, (cut_of_no_fault shape c.args.axis.0 c.args.index none).1)

-- ---- the parts
abbrev view : (g : Over) → After-with_length-2 g → View
view g c = view_of c.self.inside.start (g.D.Lengths.list c.self.inside.dim) (g.D.Lengths.list c.self.inside.strides)

none : (g : Over) (c : After-with_length-2 g) → split_fault (view g c).shape c.args.axis.0 c.args.index ≡ None
none g c = rw c.slice.ensures.list at (c.if-not-can_split.ensures.0 refl)

first_made : (g : Over) (c : After-with_length-2 g)
    → view_of c.self.inside.start (g.D.Lengths.list c.with_length-2.result) (g.D.Lengths.list c.self.inside.strides)
    ≡ first_part_of c.args.axis.0 c.args.index (view g c)
first_made g c = rw c.with_length-2.ensures refl

second_made : (g : Over) (c : After-with_length-2 g)
    → view_of c.start_from-start.result (g.D.Lengths.list c.with_length.result) (g.D.Lengths.list c.in_ok-strides.strides)
    ≡ second_part_of c.args.axis.0 c.args.index (view g c)
second_made g c =
    let starts = rw (← c.self.view_is) at c.start_from-start.ensures in
    rw (
      ap magnitude starts,
      c.with_length.ensures,
      c.in_ok-dim.ensures.list,
      c.in_ok-strides.ensures.list,
      length_read (view g c).shape c.args.axis.0 (rw c.slice-2.ensures.list at c.axis_of-len.ensures),
    ) refl

first_kept : (g : Over) (c : After-with_length-2 g) → Descends (λ coordinates. coordinates) (view g c)
    (view_of c.self.inside.start (g.D.Lengths.list c.with_length-2.result) (g.D.Lengths.list c.self.inside.strides))
first_kept g c = rw (first_made g c) (Descends-first_part_of c.args.axis.0 c.args.index (view g c) c.self.invariant (none g c))

second_kept : (g : Over) (c : After-with_length-2 g) → Descends (second_source c.args.axis.0 c.args.index) (view g c)
    (view_of c.start_from-start.result (g.D.Lengths.list c.with_length.result) (g.D.Lengths.list c.in_ok-strides.strides))
second_kept g c = rw (second_made g c) (Descends-second_part_of c.args.axis.0 c.args.index (view g c) c.self.invariant (none g c))

pub invariant_of-first : goal.invariant_of-first
invariant_of-first g c = (first_kept g c).is_view

pub invariant_of-second : goal.invariant_of-second
invariant_of-second g c = (second_kept g c).is_view

pub returns-clause-second : goal.returns-clause-second
returns-clause-second g c = rw (← c.self.view_is) (second_made g c)

pub returns-clause-first_kept : goal.returns-clause-first_kept
returns-clause-first_kept g c = rw (← c.self.view_is) (first_kept g c)

pub returns-clause-second_kept : goal.returns-clause-second_kept
returns-clause-second_kept g c = rw (← c.self.view_is) (second_kept g c)
