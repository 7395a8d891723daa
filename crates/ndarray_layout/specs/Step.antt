-- Steps from one view to the next, and the rule of each.
use Rattle.std.specs.Prelude.{◌≡◌, ◌≢◌, ℕ, ◌<◌, pos, negsuc, false, true, Some, None, List, [], ◌∷◌, length, slice_index, refl}
use Rattle.std.proofs.Math.Dec.{lit<, lit≤, lt→ltb}
use Rattle.nd_base.specs.declared.error.ErrorKind.TheVariants.{IncompatibleLayout, OutOfBounds, Unsupported}
use Rattle.nd_base.specs.declared.order.Order.{Order}
use Rattle.nd_base.specs.declared.order.Order.TheVariants.{RowMajor, ColumnMajor}
use Rattle.nd_base.specs.Dim.{lengths}
use Rattle.nd_slice.specs.declared.fit.Fit.{Fit}
use Rattle.nd_slice.specs.declared.fit.Fit.TheVariants.{Strict}
use Rattle.nd_slice.specs.declared.elem.SliceInfoElem.{SliceInfoElem}
use Rattle.nd_slice.specs.declared.elem.SliceInfoElem.TheVariants as elem
use Rattle.nd_slice.specs.Selected.{selected}
use Rattle.nd_slice.specs.SliceFault.{out_count}
use Rattle.ndarray_layout.specs.declared.runs.Step.{Step}
use Rattle.ndarray_layout.specs.declared.runs.Step.TheVariants as step
use Rattle.ndarray_layout.specs.ArgumentFits.{ArgumentFits}
use Rattle.ndarray_layout.specs.BroadcastView.{BroadcastFits, broadcast_fault, broadcast_of, broadcast_source}
use Rattle.ndarray_layout.specs.ReshapedView.{MayAskForMemory, ReshapeFits, reshape_of, reshape_source, view_reshape_fault}
use Rattle.ndarray_layout.specs.CollapsedView.{collapse_fault, collapse_of, collapse_source}
use Rattle.ndarray_layout.specs.MergedView.{HasMergedStride, merge_fault, merge_of, merge_source}
use Rattle.ndarray_layout.specs.SlicedView.{slice_of, view_slice_fault}
use Rattle.ndarray_layout.specs.StepRule.{StepRule, MayLackMemory, may_want_memory}
use Rattle.ndarray_layout.specs.View.{View}

-- a step, without where it lies in memory
pub data StepValue : Type 0 where
  SliceBy : (elems : List SliceInfoElem) → (fit : Fit) → StepValue
  CollapseTo : (axis : ℕ) → (index : ℕ) → StepValue
  MergeInto : (take : ℕ) → (into : ℕ) → StepValue
  ReshapeTo : (shape : List ℕ) → (order : Order) → StepValue
  BroadcastTo : (shape : List ℕ) → StepValue

-- a step of the program without where it lies in memory
abbrev pub step_value : Step → StepValue
step_value (step.Slice elems fit) = SliceBy elems.items fit
step_value (step.Collapse axis index) = CollapseTo axis.0 index
step_value (step.Merge take into) = MergeInto take.0 into.0
step_value (step.Reshape dim order) = ReshapeTo (lengths dim) order
step_value (step.Broadcast dim) = BroadcastTo (lengths dim)

-- the rule of each step. A slice has an element for each axis, and each fits; a coordinate that is taken is one of an axis that there
-- is; two different axes that there are can be merged where some stride has every coordinate of both; places can be read along
-- another shape where some strides keep their list; a view can be read as one of a shape that it and the view's own have in common.
-- Of either shape the product of the lengths that are not 0 is within the limit. A slice and a broadcast ask for memory where they
-- fit, a reshape, whether it fits or not, where that product is within the limit and no shape alone has no index, the others never
abbrev pub rule_of : StepValue → StepRule
rule_of (SliceBy elems fit) = record {
  fault = λ view. view_slice_fault fit None view.shape elems;
  fits = λ view. ArgumentFits fit elems view.shape;
  view = slice_of fit elems;
  source = λ view. selected fit elems view.shape;
  is_broadcast = false;
  listed = out_count elems;
  asks = λ view. ArgumentFits fit elems view.shape;
}
rule_of (CollapseTo axis index) = record {
  fault = λ view. collapse_fault view.shape axis index;
  fits = λ view. (axis < length view.shape) × (index < slice_index view.shape axis);
  view = collapse_of axis index;
  source = λ view. collapse_source axis index;
  is_broadcast = false;
  listed = 0;
  asks = λ view. ⊥;
}
rule_of (MergeInto take into) = record {
  fault = merge_fault take into;
  fits = λ view. (take < length view.shape) × (into < length view.shape) × (take ≢ into) × HasMergedStride take into view;
  view = merge_of take into;
  source = λ view. merge_source take into view.shape;
  is_broadcast = false;
  listed = 0;
  asks = λ view. ⊥;
}
rule_of (ReshapeTo shape order) = record {
  fault = view_reshape_fault order shape;
  fits = ReshapeFits order shape;
  view = reshape_of order shape;
  source = λ view. reshape_source order view.shape shape;
  is_broadcast = false;
  listed = length shape;
  asks = MayAskForMemory shape;
}
rule_of (BroadcastTo shape) = record {
  fault = λ view. broadcast_fault shape view.shape;
  fits = λ view. BroadcastFits shape view.shape;
  view = broadcast_of shape;
  source = λ view. broadcast_source view.shape;
  is_broadcast = true;
  listed = length shape;
  asks = λ view. BroadcastFits shape view.shape;
}

-- examples
abbrev two_by_three : View
two_by_three = record { start = 0; shape = 2 ∷ 3 ∷ []; strides = pos 3 ∷ pos 1 ∷ [] }

abbrev by_last_row : StepRule
by_last_row = rule_of (SliceBy (elem.Index (negsuc 0) ∷ elem.Slice (pos 0) None (pos 1) ∷ []) Strict)

last_row : by_last_row.view two_by_three ≡ record { start = 3; shape = 3 ∷ []; strides = pos 1 ∷ [] }
last_row = refl

in_last_row : by_last_row.source two_by_three (2 ∷ []) ≡ 1 ∷ 2 ∷ []
in_last_row = refl

rows_into_columns : (rule_of (MergeInto 0 1)).view two_by_three ≡ record { start = 0; shape = 1 ∷ 6 ∷ []; strides = pos 3 ∷ pos 1 ∷ [] }
rows_into_columns = refl

columns_into_rows : (rule_of (MergeInto 1 0)).fault two_by_three ≡ Some IncompatibleLayout
columns_into_rows = refl

no_third_column_more : (rule_of (CollapseTo 1 3)).fault two_by_three ≡ Some OutOfBounds
no_third_column_more = refl

axis_into_itself : (rule_of (MergeInto 0 0)).fault two_by_three ≡ Some Unsupported
axis_into_itself = refl

three_rows_of_two : (rule_of (ReshapeTo (3 ∷ 2 ∷ []) RowMajor)).view two_by_three
    ≡ record { start = 0; shape = 3 ∷ 2 ∷ []; strides = pos 2 ∷ pos 1 ∷ [] }
three_rows_of_two = refl

no_three_rows_by_columns : (rule_of (ReshapeTo (3 ∷ 2 ∷ []) ColumnMajor)).fault two_by_three ≡ Some IncompatibleLayout
no_three_rows_by_columns = refl

in_three_rows : (rule_of (ReshapeTo (3 ∷ 2 ∷ []) RowMajor)).source two_by_three (2 ∷ 0 ∷ []) ≡ 1 ∷ 1 ∷ []
in_three_rows = refl

in_stretched_axes : (rule_of (BroadcastTo (4 ∷ 2 ∷ 3 ∷ []))).source two_by_three (3 ∷ 1 ∷ 2 ∷ []) ≡ 1 ∷ 2 ∷ []
in_stretched_axes = refl

four_axes_need_no_memory : may_want_memory (rule_of (BroadcastTo (2 ∷ 1 ∷ 2 ∷ 3 ∷ []))) ≡ false
four_axes_need_no_memory = refl

five_axes_may_want_some : may_want_memory (rule_of (BroadcastTo (2 ∷ 1 ∷ 1 ∷ 2 ∷ 3 ∷ []))) ≡ true
five_axes_may_want_some = refl

no_list_of_one_coordinate : may_want_memory (rule_of (CollapseTo 0 1)) ≡ false
no_list_of_one_coordinate = refl

last_column : (rule_of (CollapseTo 1 2)).fits two_by_three
last_column = (lit< tt, lit< tt)

no_third_row : (rule_of (CollapseTo 0 2)).fits two_by_three → ⊥
no_third_row fits = lt→ltb 2 2 fits.1

one_axis_is_not_two : (rule_of (MergeInto 0 0)).fits two_by_three → ⊥
one_axis_is_not_two fits = fits.2 refl

no_memory_for_one_coordinate : MayLackMemory (rule_of (CollapseTo 0 1)) two_by_three → ⊥
no_memory_for_one_coordinate failed = failed.0

six_axes_of_another_size : MayLackMemory (rule_of (ReshapeTo (1 ∷ 1 ∷ 1 ∷ 1 ∷ 2 ∷ 4 ∷ []) RowMajor)) two_by_three
six_axes_of_another_size = ((lit≤ tt, refl), lit< tt)

no_memory_for_one_axis : MayLackMemory (rule_of (ReshapeTo (6 ∷ []) RowMajor)) two_by_three → ⊥
no_memory_for_one_axis failed = lt→ltb 4 1 failed.1
