-- What was written is the view with the axes merged, or the view, and so all that is known of both holds of it.
use Rattle.std.proofs.Common.{◌≡◌, ◌↔◌, ℕ, pos, Bool, true, false, cond, ltb, leb, None, List, get_or, set, sym, ap, subst, ◌∙◌, refl}
use Rattle.std.specs.Prelude.{◌&&◌}
use Rattle.std.proofs.Math.ListN.{get_or-map}
use Rattle.std.proofs.lemmas.List.{map-set}
use Rattle.nd_base.specs.Signed.{signed, all_signed}
use Rattle.nd_shape.specs.Merge.{merged_shape, merged_strides}
use Rattle.ndarray_layout.specs.Descends.{Descends}
use Rattle.ndarray_layout.specs.MergedView.{HasMergedStride, axes_fault, lasting_axis, merge_of, merge_source}
use Rattle.ndarray_layout.specs.View.{View, IsView, view_of}
use Rattle.ndarray_layout.proofs.Laws.MergedView.{has_merged_stride-Decides, no_fault_where_it_can, Descends-merge_of}
use Rattle.ndarray_layout.proofs.strided.Strided.merge.Given.{Over}
use Rattle.ndarray_layout.proofs.strided.Strided.merge.Goals as goal

-- the stride that is written, read as signed
lasting : (strides : List ℕ) (take into : ℕ) (taken : Bool)
    → signed (cond taken (get_or strides take 0) (get_or strides into 0)) ≡ get_or (all_signed strides) (cond taken take into) (pos 0)
lasting strides take into true = sym (get_or-map signed strides take 0)
lasting strides take into false = sym (get_or-map signed strides into 0)

module _ (take into : ℕ) (shape strides : List ℕ) where
  strides_merged : all_signed (merged_strides take into shape strides) ≡ set (all_signed strides) into
      (get_or (all_signed strides) (lasting_axis take into shape) (pos 0))
  strides_merged =
      let taken = ltb 1 (get_or shape take 0) && leb (get_or shape into 0) 1 in
      map-set signed strides into (cond taken (get_or strides take 0) (get_or strides into 0))
      ∙ ap (set (all_signed strides) into) (lasting strides take into taken)

  -- the lists that are written are those of the view with the axes merged, or of the view
  written : (merged : Bool) (start : ℕ) {new_shape new_strides : List ℕ}
      → new_shape ≡ cond merged (merged_shape take into shape) shape
      → new_strides ≡ cond merged (merged_strides take into shape strides) strides
      → view_of start new_shape new_strides ≡ cond merged (merge_of take into (view_of start shape strides)) (view_of start shape strides)
  written true start e f = rw (e, f, strides_merged) refl
  written false start e f = rw (e, f) refl

outcome : (g : Over) (c : goal.After-merge_axes g)
    → view_of c.self.inside.start (g.D.Lengths.list c.merge_axes.new.dim) (g.D.Lengths.list c.merge_axes.new.strides)
    ≡ cond c.merge_axes.result (merge_of c.args.take.0 c.args.into.0 c.args.self.now) c.args.self.now
outcome g c =
    written c.args.take.0 c.args.into.0 (g.D.Lengths.list c.self.inside.dim) (g.D.Lengths.list c.self.inside.strides)
    c.merge_axes.result c.self.inside.start c.merge_axes.ensures.shape c.merge_axes.ensures.strides
    ∙ ap (λ (view : View). cond c.merge_axes.result (merge_of c.args.take.0 c.args.into.0 view) view) c.self.view_is

-- it was merged exactly where some stride has the coordinates of both
fits : (g : Over) (c : goal.After-merge_axes g) → (c.merge_axes.result ≡ true) ↔ HasMergedStride c.args.take.0 c.args.into.0 c.args.self.now
fits g c =
    let shape = g.D.Lengths.list c.self.inside.dim in
    let strides = g.D.Lengths.list c.self.inside.strides in
    let here : (c.merge_axes.result ≡ true) ↔ HasMergedStride c.args.take.0 c.args.into.0 (view_of c.self.inside.start shape strides) =
    rw (get_or-map signed strides c.args.take.0 0, get_or-map signed strides c.args.into.0 0) c.merge_axes.ensures.fits in
    subst (λ (view : View). (c.merge_axes.result ≡ true) ↔ HasMergedStride c.args.take.0 c.args.into.0 view) c.self.view_is here

whole : (g : Over) (c : goal.After-merge_axes g) → IsView c.args.self.now
whole g c = subst IsView c.self.view_is c.self.invariant

-- where it was merged, the view is one of the same data
kept : (g : Over) (c : goal.After-merge_axes g) → c.merge_axes.result ≡ true
    → Descends (merge_source c.args.take.0 c.args.into.0 c.args.self.now.shape) c.args.self.now
    (merge_of c.args.take.0 c.args.into.0 c.args.self.now)
kept g c merged =
    let axes : axes_fault (g.D.Lengths.list c.self.inside.dim) c.args.take.0 c.args.into.0
    ≡ None = rw c.slice.ensures.list at (sym c.in_ok-check_axes.ensures) in
    Descends-merge_of c.args.take.0 c.args.into.0 c.args.self.now (whole g c) (no_fault_where_it_can c.args.take.0 c.args.into.0
    c.args.self.now (record {
      axes = subst (λ (view : View). axes_fault view.shape c.args.take.0 c.args.into.0 ≡ None) c.self.view_is axes;
      stride = (has_merged_stride-Decides c.args.take.0 c.args.into.0 c.args.self.now).1 ((fits g c).0 merged);
    }))

-- and else it is the one that there was
either : (merged : Bool) (one : View) {other : View} → (merged ≡ true → IsView one) → IsView other → IsView (cond merged one other)
either true one h k = h refl
either false one h k = k

is_view : (g : Over) (c : goal.After-merge_axes g)
    → IsView (view_of c.self.inside.start (g.D.Lengths.list c.merge_axes.new.dim) (g.D.Lengths.list c.merge_axes.new.strides))
is_view g c = rw (outcome g c) (either c.merge_axes.result _ (λ merged. (kept g c merged).is_view) (whole g c))

pub invariant_of-self : goal.invariant_of-self
invariant_of-self g c = is_view g c

pub returns-clause-fits : goal.returns-clause-fits
returns-clause-fits g c = fits g c

pub returns-clause-merged : goal.returns-clause-merged
returns-clause-merged g c = outcome g c

pub returns-clause-is_view : goal.returns-clause-is_view
returns-clause-is_view g c = is_view g c

pub returns-clause-kept : goal.returns-clause-kept
returns-clause-kept g c = λ merged. rw (outcome g c, merged) (kept g c merged)
