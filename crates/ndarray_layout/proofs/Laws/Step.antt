-- Laws of steps: one that fits a view makes a view of the same data, whose indices lie where those that they stand for do, and one has
-- no fault exactly where it fits.
use Rattle.std.proofs.Common.{◌≡◌, ◌≢◌, ◌↔◌, ℕ, ◌<◌, None, false, length, get_or, refl}
use Rattle.std.proofs.lemmas.Bool.{lt-ltb, ne_eqb}
use Rattle.ndarray_layout.specs.Descends.{Descends, IsViewOf}
use Rattle.ndarray_layout.specs.DistinctPlaces.{HasDistinctPlaces}
use Rattle.ndarray_layout.specs.MergedView.{merge_fault, HasMergedStride}
use Rattle.ndarray_layout.specs.Step.{StepValue, SliceBy, CollapseTo, MergeInto, ReshapeTo, BroadcastTo, rule_of}
use Rattle.ndarray_layout.specs.StepRule.{StepRule}
use Rattle.ndarray_layout.specs.View.{View, IsView}
use Rattle.ndarray_layout.proofs.Laws.ArgumentFits.{view_slice_fault-ArgumentFits}
use Rattle.ndarray_layout.proofs.Laws.BroadcastView.{IsViewOf-broadcast_of, can_broadcast, no_fault_where_it_can}
use Rattle.ndarray_layout.proofs.Laws.CollapsedView.{Descends-collapse_of, coordinate_of_no_fault}
use Rattle.ndarray_layout.proofs.Laws.KeepsPlaces.{IsViewOf-Descends}
use Rattle.ndarray_layout.proofs.Laws.MergedView as merged
use Rattle.ndarray_layout.proofs.Laws.ReshapedView.{Descends-reshape_of, view_reshape_fault-ReshapeFits}
use Rattle.ndarray_layout.proofs.Laws.SlicedView.{no_argument_fault, Descends-slice_of}

-- what holds of a step's rule at each view: it has no fault exactly where it fits, and what it makes of the view is then one of the same
-- data, in which, but after a broadcast, no two indices share a place that were apart
pub record IsLawful (rule : StepRule) (view : View) : Type 0 where
  pub decides : (rule.fault view ≡ None) ↔ rule.fits view
  pub kept : rule.fault view ≡ None → IsViewOf (rule.source view) view (rule.view view)
  pub distinct : rule.fault view ≡ None → rule.is_broadcast ≡ false → HasDistinctPlaces view → HasDistinctPlaces (rule.view view)

-- of a step that isn't a broadcast
descending : {rule : StepRule} {view : View} → ((rule.fault view ≡ None) ↔ rule.fits view)
    → (rule.fault view ≡ None → Descends (rule.source view) view (rule.view view)) → IsLawful rule view
descending decides descends = record {
  decides = decides;
  kept = λ none. IsViewOf-Descends (descends none);
  distinct = λ none apart. (descends none).distinct;
}

merge_fault-fits : (take into : ℕ) (view : View)
    → (merge_fault take into view ≡ None)
    ↔ ((take < length view.shape) × (into < length view.shape) × (take ≢ into) × HasMergedStride take into view)
merge_fault-fits take into view = (
  λ none.
      let can = merged.can_merge take into view none in
      let axes = merged.axes_of_no_fault view.shape take into can.axes in
      (axes.take_there, axes.into_there, axes.apart, (merged.has_merged_stride-Decides take into view).0 can.stride),
  λ fits. merged.no_fault_where_it_can take into view (record {
    axes = rw (lt-ltb take (length view.shape) fits.0, lt-ltb into (length view.shape) fits.1, ne_eqb take into fits.2) refl;
    stride = (merged.has_merged_stride-Decides take into view).1 fits.3;
  }),
)

pub lawful : {view : View} (step : StepValue) → IsView view → IsLawful (rule_of step) view
lawful {view} (SliceBy elems fit) v =
    descending (view_slice_fault-ArgumentFits fit elems view.shape)
    (λ none. Descends-slice_of fit elems view v (no_argument_fault fit None view.shape elems none))
lawful {view} (CollapseTo axis index) v =
    descending (
      coordinate_of_no_fault view.shape axis index,
      λ fits. rw (lt-ltb axis (length view.shape) fits.0, lt-ltb index (get_or view.shape axis 0) fits.1) refl,
    )
    (Descends-collapse_of axis index view v)
lawful {view} (MergeInto take into) v = descending (merge_fault-fits take into view) (merged.Descends-merge_of take into view v)
lawful (ReshapeTo shape order) v = descending (view_reshape_fault-ReshapeFits order shape v) (Descends-reshape_of order shape v)
lawful {view} (BroadcastTo shape) v = record {
  decides = (
    λ none.
        let can = can_broadcast {shape = shape} {view_shape = view.shape} none in
        (can.common, can.size_fits),
    λ fits. no_fault_where_it_can shape view.shape (record { common = fits.0; size_fits = fits.1 }),
  );
  kept = IsViewOf-broadcast_of shape v;
  distinct = λ none apart. absurd (cc);
}
