-- Laws of views in which an axis was merged into another.
use Rattle.std.proofs.Common.{◌≡◌, ◌↔◌, ℕ, ℤ, pos, Bool, true, false, not, cond, eqb, ltb, leb, Option, Some, None, List, length}
use Rattle.std.proofs.Common.{get_or, nat_lt, refl}
use Rattle.std.proofs.lemmas.Bool.{and_parts, ltb-true, eqb-false}
use Rattle.std.proofs.lemmas.Bool.Decides.{same_from_decides}
use Rattle.std.specs.Bool.{Decides}
use Rattle.std.specs.Option.{option_or}
use Rattle.std.specs.Prelude.{◌&&◌}
use Rattle.nd_base.specs.declared.error.ErrorKind.{ErrorKind}
use Rattle.nd_base.specs.declared.error.ErrorKind.TheVariants.{IncompatibleLayout, OutOfBounds, Unsupported}
use Rattle.nd_shape.specs.Merge.{IsMergedStride, merged_stride}
use Rattle.nd_shape.proofs.Laws.Merge.{merge_fits-Decides, merged_stride_serves}
use Rattle.ndarray_layout.specs.Descends.{Descends}
use Rattle.ndarray_layout.specs.MergedView.{axes_fault, HasMergedStride, has_merged_stride, merge_fault, lasting_axis, merge_of}
use Rattle.ndarray_layout.specs.MergedView.{merge_source}
use Rattle.ndarray_layout.specs.View.{View, IsView}
use Rattle.ndarray_layout.proofs.Merged.{AreTwoAxes, merged_sources}
use Rattle.ndarray_layout.proofs.Laws.Sources.{Descends-from_start}

-- the test says where some stride has the coordinates of both axes
pub has_merged_stride-Decides : (take into : ℕ) (view : View) → Decides (has_merged_stride take into view) (HasMergedStride take into view)
has_merged_stride-Decides take into view = merge_fits-Decides (get_or view.shape take 0) (get_or view.strides take (pos 0))
    (get_or view.shape into 0) (get_or view.strides into (pos 0))

-- axes without fault are two that there are
pub axes_of_no_fault : (shape : List ℕ) (take into : ℕ) → axes_fault shape take into ≡ None → AreTwoAxes shape take into
axes_of_no_fault shape take into none =
    let parts = by (nat_lt take (length shape) && nat_lt into (length shape)) (eqb take into) none in
    let there = and_parts (nat_lt take (length shape)) (nat_lt into (length shape)) parts.0 in
    record {
      take_there = ltb-true take (length shape) there.0;
      into_there = ltb-true into (length shape) there.1;
      apart = eqb-false take into parts.1;
    }
  where
    by : (here same : Bool) → cond (not here) (Some OutOfBounds) (cond same (Some Unsupported) None) ≡ None → (here ≡ true) × (same ≡ false)
    by true true none = absurd (cc)
    by true false none = (refl, refl)
    by false same none = absurd (cc)

-- and where they have to be merged, some stride has the coordinates of both
pub record CanMerge (take into : ℕ) (view : View) : Type 0 where
  pub axes : axes_fault view.shape take into ≡ None
  pub stride : has_merged_stride take into view ≡ true

pub can_merge : (take into : ℕ) (view : View) → merge_fault take into view ≡ None → CanMerge take into view
can_merge take into view none =
    let parts = by (axes_fault view.shape take into) (has_merged_stride take into view) none in
    record { axes = parts.0; stride = parts.1 }
  where
    by : (axes : Option ErrorKind) (fits : Bool) → option_or axes (cond fits None (Some IncompatibleLayout)) ≡ None
        → (axes ≡ None) × (fits ≡ true)
    by None true none = (refl, refl)
    by None false none = absurd (cc)
    by (Some kind) fits none = absurd (cc)

pub no_fault_where_it_can : (take into : ℕ) (view : View) → CanMerge take into view → merge_fault take into view ≡ None
no_fault_where_it_can take into view can = rw (can.axes, can.stride) refl

-- so a merge's answer says what its fault is, where the axes have to be merged
pub merge_fault_of_answer : (take into : ℕ) (view : View) {merged : Bool} → axes_fault view.shape take into ≡ None
    → (merged ≡ true) ↔ HasMergedStride take into view → merge_fault take into view ≡ cond merged None (Some IncompatibleLayout)
merge_fault_of_answer take into view {merged} none fits =
    let same : has_merged_stride take into view ≡ merged = same_from_decides (has_merged_stride take into view) merged
    (has_merged_stride-Decides take into view) fits in
    rw (none, same) refl

-- the stride of the axis that lasts is the one that has them
stride_of : (strides : List ℤ) (take into : ℕ) (taken : Bool)
    → get_or strides (cond taken take into) (pos 0) ≡ cond taken (get_or strides take (pos 0)) (get_or strides into (pos 0))
stride_of strides take into true = refl
stride_of strides take into false = refl

lasting : (take into : ℕ) (view : View)
    → get_or view.strides (lasting_axis take into view.shape) (pos 0) ≡ merged_stride (get_or view.shape take 0)
    (get_or view.strides take (pos 0)) (get_or view.shape into 0) (get_or view.strides into (pos 0))
lasting take into view = stride_of view.strides take into (ltb 1 (get_or view.shape take 0) && leb (get_or view.shape into 0) 1)

-- axes of a view that can be merged
module _ (take into : ℕ) (view : View) (v : IsView view) (none : merge_fault take into view ≡ None) where
  can : CanMerge take into view
  can = can_merge take into view none

  serves : IsMergedStride (get_or view.shape take 0) (get_or view.strides take (pos 0)) (get_or view.shape into 0)
      (get_or view.strides into (pos 0)) (get_or view.strides (lasting_axis take into view.shape) (pos 0))
  serves = rw (lasting take into view) (merged_stride_serves _ _ _ _ can.stride)

  -- the view is one of the same data, whose indices lie where their sources do
  pub Descends-merge_of : Descends (merge_source take into view.shape) view (merge_of take into view)
  Descends-merge_of = Descends-from_start v (merged_sources view.shape view.strides take into _ v.valid.same_count
      (axes_of_no_fault view.shape take into can.axes) serves)
