-- What slicing makes of a view, and which slices fail.
use Rattle.std.specs.Prelude.{◌≡◌, ℕ, ℤ, pos, negsuc, ◌+ℤ◌, ◌==◌, Option, Some, None, if◌then◌else◌, List, [], ◌∷◌, refl}
use Rattle.nd_base.specs.declared.error.ErrorKind.{ErrorKind}
use Rattle.nd_base.specs.declared.error.ErrorKind.TheVariants.{IncompatibleShape, OutOfBounds}
use Rattle.nd_base.specs.Signed.{magnitude}
use Rattle.nd_slice.specs.declared.fit.Fit.{Fit}
use Rattle.nd_slice.specs.declared.fit.Fit.TheVariants.{Strict, Clamp}
use Rattle.nd_slice.specs.declared.elem.SliceInfoElem.{SliceInfoElem}
use Rattle.nd_slice.specs.declared.elem.SliceInfoElem.TheVariants as elem
use Rattle.nd_slice.specs.SliceFault.{out_count, argument_fault}
use Rattle.nd_slice.specs.SlicedLayout.{sliced_shape, sliced_strides, sliced_offset}
use Rattle.ndarray_layout.specs.View.{View}

-- the place of the first index that an argument leaves of a view
abbrev pub sliced_start : Fit → List SliceInfoElem → View → ℤ
sliced_start fit elems view = pos view.start +ℤ sliced_offset fit elems view.shape view.strides

-- the slice of a view by an argument without fault
abbrev pub slice_of : Fit → List SliceInfoElem → View → View
slice_of fit elems view = record {
  start = magnitude (sliced_start fit elems view);
  shape = sliced_shape fit elems view.shape;
  strides = sliced_strides fit elems view.shape view.strides;
}

-- the fault of slicing a shape into a type that may fix a count of axes: that the argument leaves more or fewer, then that of the argument
abbrev pub view_slice_fault : Fit → Option ℕ → List ℕ → List SliceInfoElem → Option ErrorKind
view_slice_fault fit None shape elems = argument_fault fit shape elems
view_slice_fault fit (Some count) shape elems = if out_count elems == count then argument_fault fit shape elems else Some IncompatibleShape

-- examples
start_of_the_last_row :
    sliced_start Strict (elem.Index (negsuc 0) ∷ []) (record { start = 7; shape = 2 ∷ []; strides = pos 3 ∷ [] }) ≡ pos 10
start_of_the_last_row = refl

last_row : slice_of Strict (elem.Index (negsuc 0) ∷ []) (record { start = 7; shape = 2 ∷ []; strides = pos 3 ∷ [] })
    ≡ record { start = 10; shape = []; strides = [] }
last_row = refl

every_other_backwards :
    slice_of Strict (elem.Slice (pos 1) None (negsuc 1) ∷ []) (record { start = 5; shape = 4 ∷ []; strides = pos 3 ∷ [] })
    ≡ record { start = 14; shape = 2 ∷ []; strides = negsuc 5 ∷ [] }
every_other_backwards = refl

clamped : slice_of Clamp (elem.Slice (negsuc 8) (Some (pos 9)) (negsuc 1) ∷ []) (record { start = 0; shape = 4 ∷ []; strides = pos 1 ∷ [] })
    ≡ record { start = 3; shape = 2 ∷ []; strides = negsuc 1 ∷ [] }
clamped = refl

last_row_with_new_axis :
    slice_of Strict (elem.Index (negsuc 0) ∷ elem.NewAxis ∷ elem.Slice (pos 0) None (pos 1) ∷ [])
    (record { start = 0; shape = 2 ∷ 3 ∷ []; strides = pos 3 ∷ pos 1 ∷ [] })
    ≡ record { start = 3; shape = 1 ∷ 3 ∷ []; strides = pos 0 ∷ pos 1 ∷ [] }
last_row_with_new_axis = refl

one_for_two_axes : view_slice_fault Strict (Some 1) (2 ∷ 3 ∷ []) (elem.Slice (pos 1) None (pos 1) ∷ []) ≡ Some IncompatibleShape
one_for_two_axes = refl

two_axes_for_one :
    view_slice_fault Strict (Some 1) (2 ∷ 3 ∷ []) (elem.Slice (pos 9) None (pos 1) ∷ elem.Slice (pos 0) None (pos 1) ∷ [])
    ≡ Some IncompatibleShape
two_axes_for_one = refl

past_the_end : view_slice_fault Strict (Some 1) (2 ∷ 3 ∷ []) (elem.Index (pos 1) ∷ elem.Slice (pos 4) None (pos 1) ∷ []) ≡ Some OutOfBounds
past_the_end = refl

clamped_past_the_end : view_slice_fault Clamp (Some 1) (2 ∷ 3 ∷ []) (elem.Index (pos 1) ∷ elem.Slice (pos 4) None (pos 1) ∷ []) ≡ None
clamped_past_the_end = refl

index_past_the_end : view_slice_fault Clamp None (2 ∷ 3 ∷ []) (elem.Index (pos 2) ∷ elem.Slice (pos 4) None (pos 1) ∷ []) ≡ Some OutOfBounds
index_past_the_end = refl
