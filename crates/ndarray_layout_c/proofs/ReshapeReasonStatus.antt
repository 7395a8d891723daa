-- The status of the reason of a reshape is that of the call.
use Rattle.std.proofs.Common.{◌≡◌, ℕ, ℤ, pos, Bool, true, false, cond, ltb, Option, Some, None, List, length, get_or, refl, ap, ◌∙◌}
use Rattle.std.specs.Option.{option_map_or, option_or}
use Rattle.std.specs.Prelude.{slice_index}
use Rattle.ndarray_layout.specs.declared.CanIndexCheckMode.TheVariants.{ReadOnly}
use Rattle.ndarray_layout.specs.declared.ErrorKind.{ErrorKind}
use Rattle.ndarray_layout.specs.declared.ErrorKind.TheVariants.{IncompatibleLayout, IncompatibleShape, OutOfBounds, Overflow}
use Rattle.ndarray_layout.specs.declared.ErrorKind.TheVariants.{RangeLimited, Unsupported}
use Rattle.ndarray_layout.specs.declared.Order.{Order}
use Rattle.ndarray_layout.specs.ReshapedView.{view_reshape_fault}
use Rattle.ndarray_layout.specs.Signed.{all_signed}
use Rattle.ndarray_layout_c.specs.declared.reasons.Reason.{Reason}
use Rattle.ndarray_layout_c.specs.LayoutFault.{layout_fault, lowest_view, most_elements}
use Rattle.ndarray_layout_c.specs.LayoutReasons.{layout_reason}
use Rattle.ndarray_layout_c.specs.ReshapeReasons.{copy_reason, fault_reason, reading_fault, reshape_reason, stuck_axis}
use Rattle.ndarray_layout_c.specs.Reasons.{of_axis}
use Rattle.ndarray_layout_c.specs.Statuses.{number_of, status_of}
use Rattle.ndarray_layout_c.proofs.LayoutReasonStatus.{status_of_lowest}

module _ (shape strides : List ℕ) where
  copy_status : (status : ℤ) (axis : ℕ) → (copy_reason status shape strides axis).status ≡ status
  copy_status status axis = by (ltb axis (length shape))
    where
      by : (there : Bool)
          → (cond there (of_axis status (pos 13) axis (get_or (all_signed strides) axis (pos 0)) (slice_index shape axis) 0)
          (of_axis status (pos 13) axis (pos 0) 0 0)).status
          ≡ status
      by true = refl
      by false = refl

  fault_status : (new_shape : List ℕ) (axis : ℕ) (fault : Option ErrorKind)
      → (fault_reason shape strides new_shape axis fault).status ≡ status_of fault
  fault_status new_shape axis None = refl
  fault_status new_shape axis (Some Overflow) = refl
  fault_status new_shape axis (Some IncompatibleShape) = refl
  fault_status new_shape axis (Some IncompatibleLayout) = copy_status (number_of IncompatibleLayout) axis
  fault_status new_shape axis (Some RangeLimited) = copy_status (number_of RangeLimited) axis
  fault_status new_shape axis (Some OutOfBounds) = copy_status (number_of OutOfBounds) axis
  fault_status new_shape axis (Some Unsupported) = copy_status (number_of Unsupported) axis

-- as a call writes it
pub status_of_reshape : (order : Order) (new_shape shape strides : List ℕ) (reason : Reason)
    → reason ≡ reshape_reason order new_shape shape strides
    → reason.status ≡ status_of (reading_fault order new_shape shape strides)
status_of_reshape order new_shape shape strides reason same =
    ap Reason.status same
    ∙ by (layout_fault shape (all_signed strides))
    (status_of_lowest shape (all_signed strides) 1 most_elements ReadOnly
    (layout_reason None 1 most_elements ReadOnly shape (all_signed strides)) refl)
  where
    by : (fault : Option ErrorKind)
        → (layout_reason None 1 most_elements ReadOnly shape (all_signed strides)).status ≡ status_of fault
        → (option_map_or (λ kind. layout_reason None 1 most_elements ReadOnly shape (all_signed strides)) fault
        (fault_reason shape strides new_shape (stuck_axis order new_shape shape strides)
        (view_reshape_fault order new_shape (lowest_view shape strides)))).status
        ≡ status_of (option_or fault (view_reshape_fault order new_shape (lowest_view shape strides)))
    by None told =
        fault_status shape strides new_shape (stuck_axis order new_shape shape strides)
        (view_reshape_fault order new_shape (lowest_view shape strides))
    by (Some kind) told = told
