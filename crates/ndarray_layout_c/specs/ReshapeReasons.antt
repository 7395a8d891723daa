-- Why a layout can't be read as one of another shape: that of the layout, a product past the limit, another size, or the axis at which the
-- strides don't go on.
use Rattle.std.specs.Prelude.{◌≡◌, ℕ, ℤ, ◌+◌, ◌-◌, pos, Bool, true, false, nat_lt, if◌then◌else◌, Option, Some, None}
use Rattle.std.specs.Prelude.{List, [], ◌∷◌, length, take, drop, slice_index, slice_index_or, refl}
use Rattle.std.specs.List.{find, range_with_len}
use Rattle.std.specs.Option.{option_map_or, option_or}
use Rattle.ndarray_layout.specs.declared.CanIndexCheckMode.TheVariants.{ReadOnly}
use Rattle.ndarray_layout.specs.declared.ErrorKind.{ErrorKind}
use Rattle.ndarray_layout.specs.declared.ErrorKind.TheVariants.{IncompatibleLayout, IncompatibleShape, OutOfBounds, Overflow}
use Rattle.ndarray_layout.specs.declared.ErrorKind.TheVariants.{RangeLimited, Unsupported}
use Rattle.ndarray_layout.specs.declared.Order.{Order}
use Rattle.ndarray_layout.specs.declared.Order.TheVariants.{ColumnMajor, RowMajor}
use Rattle.ndarray_layout.specs.ReshapedView.{view_reshape_fault}
use Rattle.ndarray_layout.specs.Signed.{all_signed}
use Rattle.ndarray_layout.specs.Size.{size}
use Rattle.ndarray_layout_c.specs.declared.reasons.Reason.{Reason}
use Rattle.ndarray_layout_c.specs.LayoutFault.{layout_fault, lowest_view, most_elements}
use Rattle.ndarray_layout_c.specs.LayoutReasons.{layout_reason}
use Rattle.ndarray_layout_c.specs.Reasons.{copy_rule, no_reason, of_axis, other_size_rule, size_rule}
use Rattle.ndarray_layout_c.specs.Statuses.{number_of}

-- the fault of reading a layout as one of a shape: that of the layout first
abbrev pub reading_fault : Order → List ℕ → List ℕ → List ℕ → Option ErrorKind
reading_fault order new_shape shape strides =
    option_or (layout_fault shape (all_signed strides)) (view_reshape_fault order new_shape (lowest_view shape strides))

-- of some axes those that are read first, so many of them
abbrev pub read_first : Order → ℕ → List ℕ → List ℕ
read_first RowMajor count items = take count items
read_first ColumnMajor count items = drop (length items - count) items

-- the strides are at fault, and no size
abbrev pub is_of_strides : Option ErrorKind → Bool
is_of_strides None = false
is_of_strides (Some IncompatibleLayout) = true
is_of_strides (Some IncompatibleShape) = false
is_of_strides (Some RangeLimited) = false
is_of_strides (Some OutOfBounds) = false
is_of_strides (Some Unsupported) = false
is_of_strides (Some Overflow) = false

-- the axes up to one, with so many read before it, can't be read as they are
abbrev pub is_stuck : Order → List ℕ → List ℕ → List ℕ → ℕ → Bool
is_stuck order new_shape shape strides before =
    is_of_strides (reading_fault order new_shape (read_first order (before + 1) shape) (read_first order (before + 1) strides))

-- how many axes are read before the first of these
abbrev pub first_stuck : Order → List ℕ → List ℕ → List ℕ → Option ℕ
first_stuck order new_shape shape strides = find (is_stuck order new_shape shape strides) (range_with_len 0 (length shape))

-- the number of an axis of so many, with so many read before it
abbrev pub axis_read : Order → ℕ → ℕ → ℕ
axis_read RowMajor ndim before = before
axis_read ColumnMajor ndim before = ndim - (before + 1)

-- the first of these axes
abbrev pub stuck_axis : Order → List ℕ → List ℕ → List ℕ → ℕ
stuck_axis order new_shape shape strides =
    option_map_or (axis_read order (length shape)) (first_stuck order new_shape shape strides) 0

-- the strides can't be read past an axis: its stride and its length, where there is such an axis
abbrev pub copy_reason : ℤ → List ℕ → List ℕ → ℕ → Reason
copy_reason status shape strides axis =
    if nat_lt axis (length shape)
    then of_axis status copy_rule axis (slice_index_or (all_signed strides) axis (pos 0)) (slice_index shape axis) 0
    else of_axis status copy_rule axis (pos 0) 0 0

-- why a layout can't be read as one of a shape, by its fault; the axis where it is one of strides
abbrev pub fault_reason : List ℕ → List ℕ → List ℕ → ℕ → Option ErrorKind → Reason
fault_reason shape strides new_shape axis None = no_reason
fault_reason shape strides new_shape axis (Some Overflow) = of_axis (number_of Overflow) size_rule 0 (pos 0) 0 0
fault_reason shape strides new_shape axis (Some IncompatibleShape) =
    of_axis (number_of IncompatibleShape) other_size_rule 0 (pos 0) (size new_shape) (size shape)
fault_reason shape strides new_shape axis (Some IncompatibleLayout) = copy_reason (number_of IncompatibleLayout) shape strides axis
fault_reason shape strides new_shape axis (Some RangeLimited) = copy_reason (number_of RangeLimited) shape strides axis
fault_reason shape strides new_shape axis (Some OutOfBounds) = copy_reason (number_of OutOfBounds) shape strides axis
fault_reason shape strides new_shape axis (Some Unsupported) = copy_reason (number_of Unsupported) shape strides axis

-- why a layout can't be read as one of a shape
abbrev pub reshape_reason : Order → List ℕ → List ℕ → List ℕ → Reason
reshape_reason order new_shape shape strides =
    option_map_or (λ kind. layout_reason None 1 most_elements ReadOnly shape (all_signed strides))
    (layout_fault shape (all_signed strides))
    (fault_reason shape strides new_shape (stuck_axis order new_shape shape strides)
    (view_reshape_fault order new_shape (lowest_view shape strides)))

-- examples
across_rows : reshape_reason RowMajor (2 ∷ 1 ∷ 4 ∷ 2 ∷ []) (4 ∷ 1 ∷ 4 ∷ []) (8 ∷ 9 ∷ 1 ∷ [])
    ≡ record { status = pos 2; rule = pos 13; list = pos 0; unit = pos 0; axis = 2; number = pos 1; size = 4; other = 0 }
across_rows = refl

rows_as_columns : reshape_reason ColumnMajor (3 ∷ 2 ∷ []) (2 ∷ 3 ∷ []) (3 ∷ 1 ∷ [])
    ≡ record { status = pos 2; rule = pos 13; list = pos 0; unit = pos 0; axis = 0; number = pos 3; size = 2; other = 0 }
rows_as_columns = refl

four_of_six : reshape_reason RowMajor (4 ∷ []) (2 ∷ 3 ∷ []) (3 ∷ 1 ∷ [])
    ≡ record { status = pos 1; rule = pos 12; list = pos 0; unit = pos 0; axis = 0; number = pos 0; size = 4; other = 6 }
four_of_six = refl

too_large : reshape_reason RowMajor (9223372036854775807 ∷ 2 ∷ []) (2 ∷ 3 ∷ []) (3 ∷ 1 ∷ [])
    ≡ record { status = pos 6; rule = pos 5; list = pos 0; unit = pos 0; axis = 0; number = pos 0; size = 0; other = 0 }
too_large = refl

no_layout : reshape_reason RowMajor (6 ∷ []) (2 ∷ 3 ∷ []) (1 ∷ [])
    ≡ record { status = pos 2; rule = pos 1; list = pos 1; unit = pos 0; axis = 0; number = pos 0; size = 1; other = 2 }
no_layout = refl

three_rows : reshape_reason RowMajor (3 ∷ 2 ∷ []) (2 ∷ 3 ∷ []) (3 ∷ 1 ∷ []) ≡ no_reason
three_rows = refl
