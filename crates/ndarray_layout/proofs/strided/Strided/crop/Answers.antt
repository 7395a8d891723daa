-- What was written is the view of the ranges.
use Rattle.std.proofs.Common.{rules, ◌≡◌, FitsSigned, pos, ◌+ℤ◌, length, ap, ◌∙◌, refl}
use Rattle.std.specs.Int.{w64}
use Rattle.std.proofs.lemmas.Int.{to_z-of_z}
use Rattle.nd_base.proofs.Laws.Definitions.{magnitude, offset_of}
use Rattle.ndarray_layout.specs.CroppedView.{RangesFit, moved_starts, cropped_of, crop_source}
use Rattle.ndarray_layout.specs.Descends.{Descends}
use Rattle.ndarray_layout.specs.View.{IsPlace, View, view_of}
use Rattle.ndarray_layout.proofs.Laws.CroppedView.{cropped_start_within, moved_small, moved_far, Descends-cropped_of}
use Rattle.ndarray_layout.proofs.strided.Strided.crop.Given.{Over}
use Rattle.ndarray_layout.proofs.strided.Strided.crop.Goals as goal
use Rattle.ndarray_layout.proofs.strided.Strided.crop.Goals.{After-slice-6, After-index_offset-offset, After-offset_place-start}

-- the view as it was
abbrev here : (g : Over) → After-slice-6 g → View
here g c = view_of c.self.inside.start (g.D.Lengths.list c.self.inside.dim) (g.D.Lengths.list c.self.inside.strides)

fit : (g : Over) (c : After-slice-6 g) → RangesFit (here g c).shape (g.D.Lengths.list c.args.starts.now) (g.D.Lengths.list c.args.ends.now)
fit g c = record {
  in_order = rw (c.slice.ensures.list, c.slice-2.ensures.list) at (c.if-not-is_at_most.ensures.0 refl);
  within = rw (c.slice-else-not-is_at_most.ensures.list, c.slice-else-not-is_at_most-2.ensures.list)
      at (c.if-not-is_at_most-2.ensures.0 refl);
}

-- the starts that move
moved : (g : Over) (c : After-slice-6 g)
    → c.slice-5.result.now ≡ moved_starts (g.D.Lengths.list c.args.starts.now) (g.D.Lengths.list c.args.ends.now)
moved g c =
    let long : length c.move_starts.new.starts ≡ length (g.D.Lengths.list c.args.starts.now) = search rules in
    c.slice-5.ensures.list
    ∙ g.met.D.Lengths.list_of_with_list c.args.starts.now c.move_starts.new.starts long
    ∙ rw (c.slice_mut-2.ensures.list, c.slice-4.ensures.list) at c.move_starts.ensures

pub index_offset-offset-requires-clause-small : goal.index_offset-offset-requires-clause-small
index_offset-offset-requires-clause-small g c =
    rw (moved g c)
    (moved_small (g.D.Lengths.list c.args.starts.now) (g.D.Lengths.list c.args.ends.now) (here g c) c.self.invariant (fit g c))

pub index_offset-offset-requires-clause-fits : goal.index_offset-offset-requires-clause-fits
index_offset-offset-requires-clause-fits g c =
    rw (moved g c, c.slice-6.ensures.list)
    (moved_far (g.D.Lengths.list c.args.starts.now) (g.D.Lengths.list c.args.ends.now) (here g c) c.self.invariant (fit g c))

-- so far the start moves
offset : (g : Over) (c : After-index_offset-offset g)
    → c.index_offset-offset.result
    ≡ offset_of (here g c.before).strides (moved_starts (g.D.Lengths.list c.args.starts.now) (g.D.Lengths.list c.args.ends.now))
offset g c = rw (moved g c.before, c.slice-6.ensures.list) at c.index_offset-offset.ensures

within : (g : Over) (c : After-index_offset-offset g)
    → IsPlace (pos c.self.inside.start +ℤ c.index_offset-offset.result)
within g c =
    rw (offset g c) (cropped_start_within (g.D.Lengths.list c.args.starts.now) (g.D.Lengths.list c.args.ends.now) (here g c.before)
    c.self.invariant (fit g c.before))

pub offset_place-start-requires-clause-there : goal.offset_place-start-requires-clause-there
offset_place-start-requires-clause-there g c =
    let f : FitsSigned w64 c.index_offset-offset.result = search rules in
    rw (to_z-of_z w64 c.index_offset-offset.result f) (within g c)

abbrev written : (g : Over) → After-offset_place-start g → View
written g c = view_of c.offset_place-start.result (g.D.Lengths.list (g.D.Lengths.with_list c.args.ends.now c.subtract_starts.new.ends))
    (g.D.Lengths.list c.self.inside.strides)

made : (g : Over) (c : After-offset_place-start g)
    → written g c ≡ cropped_of (g.D.Lengths.list c.args.starts.now) (g.D.Lengths.list c.args.ends.now) (here g c.before.before)
made g c =
    let f : FitsSigned w64 c.index_offset-offset.result = search rules in
    let start = ap magnitude (c.offset_place-start.ensures
    ∙ ap (λ z. pos c.self.inside.start +ℤ z) (to_z-of_z w64 c.index_offset-offset.result f ∙ offset g c.before)) in
    let long : length c.subtract_starts.new.ends ≡ length (g.D.Lengths.list c.args.ends.now) = search rules in
    let shape = g.met.D.Lengths.list_of_with_list c.args.ends.now c.subtract_starts.new.ends long
    ∙ rw (c.slice_mut.ensures.list, c.slice-3.ensures.list) at c.subtract_starts.ensures in
    rw (start, shape) refl

kept : (g : Over) (c : After-offset_place-start g)
    → Descends (crop_source (g.D.Lengths.list c.args.starts.now)) (here g c.before.before) (written g c)
kept g c =
    rw (made g c) (Descends-cropped_of (g.D.Lengths.list c.args.starts.now) (g.D.Lengths.list c.args.ends.now) (here g c.before.before)
    c.self.invariant (fit g c.before.before))

pub invariant_of-result : goal.invariant_of-result
invariant_of-result g c = (kept g c.before).is_view

pub returns-clause-kept : goal.returns-clause-kept
returns-clause-kept g c = rw (← c.self.view_is) (kept g c.before)
