-- Which slice arguments fit a shape, and which fault any other has.
use Rattle.std.specs.Prelude.{◌≡◌, ℕ, ◌+◌, pos, ◌==◌, Option, Some, None, if◌then◌else◌, List, [], ◌∷◌, length, refl}
use Rattle.std.specs.Option.{option_or}
use Rattle.nd_base.specs.declared.error.ErrorKind.{ErrorKind}
use Rattle.nd_base.specs.declared.error.ErrorKind.TheVariants.{IncompatibleShape, OutOfBounds, Unsupported}
use Rattle.nd_slice.specs.declared.fit.Fit.{Fit}
use Rattle.nd_slice.specs.declared.fit.Fit.TheVariants.{Strict, Clamp}
use Rattle.nd_slice.specs.AxisElems.{axis_elems}
use Rattle.nd_slice.specs.SliceBounds.{slice_with}
use Rattle.nd_slice.specs.AxisFault.{slice_fault, index_fault}
use Rattle.nd_slice.specs.declared.elem.SliceInfoElem.{SliceInfoElem}
use Rattle.nd_slice.specs.declared.elem.SliceInfoElem.TheVariants as elem

-- how many axes of a shape an argument is for: one for each element but a new axis
abbrev pub in_count : List SliceInfoElem → ℕ
in_count [] = 0
in_count (elem.Slice start end step ∷ elems) = 1 + in_count elems
in_count (elem.Index index ∷ elems) = 1 + in_count elems
in_count (elem.NewAxis ∷ elems) = in_count elems

-- how many axes an argument leaves: one for each element but an index
abbrev pub out_count : List SliceInfoElem → ℕ
out_count [] = 0
out_count (elem.Slice start end step ∷ elems) = 1 + out_count elems
out_count (elem.Index index ∷ elems) = out_count elems
out_count (elem.NewAxis ∷ elems) = 1 + out_count elems

-- the fault of an element on an axis of length len, if any: a new axis has none
abbrev pub elem_fault : Fit → ℕ → SliceInfoElem → Option ErrorKind
elem_fault fit len (elem.Slice start end step) = slice_fault fit len (slice_with start end step)
elem_fault fit len (elem.Index index) = index_fault len index
elem_fault fit len elem.NewAxis = None

-- the first fault of some elements, each on an axis of its own
abbrev pub fault_of_each : Fit → List (ℕ × SliceInfoElem) → Option ErrorKind
fault_of_each fit [] = None
fault_of_each fit (one ∷ others) = option_or (elem_fault fit one.0 one.1) (fault_of_each fit others)

-- the fault of an argument for as many axes as a shape has: that of the first element at fault, each on its own axis
abbrev pub first_fault : Fit → List ℕ → List SliceInfoElem → Option ErrorKind
first_fault fit shape elems = fault_of_each fit (axis_elems shape elems)

-- the fault of an argument on a shape: that it is for more axes or fewer, then that of the first element at fault
abbrev pub argument_fault : Fit → List ℕ → List SliceInfoElem → Option ErrorKind
argument_fault fit shape elems = if in_count elems == length shape then first_fault fit shape elems else Some IncompatibleShape

-- examples
new_axis_without_fault : elem_fault Strict 0 elem.NewAxis ≡ None
new_axis_without_fault = refl

index_past_the_end : elem_fault Strict 4 (elem.Index (pos 4)) ≡ Some OutOfBounds
index_past_the_end = refl

row_and_new_axis_in : in_count (elem.Index (pos 0) ∷ elem.NewAxis ∷ elem.Slice (pos 0) None (pos 1) ∷ []) ≡ 2
row_and_new_axis_in = refl

row_and_new_axis_out : out_count (elem.Index (pos 0) ∷ elem.NewAxis ∷ elem.Slice (pos 0) None (pos 1) ∷ []) ≡ 2
row_and_new_axis_out = refl

row_alone_out : out_count (elem.Index (pos 0) ∷ []) ≡ 0
row_alone_out = refl

second_element_at_fault : first_fault Strict (4 ∷ 5 ∷ []) (elem.Index (pos 3) ∷ elem.Index (pos 5) ∷ []) ≡ Some OutOfBounds
second_element_at_fault = refl

no_fault : argument_fault Strict (4 ∷ 5 ∷ []) (elem.Index (pos 3) ∷ elem.NewAxis ∷ elem.Slice (pos 1) None (pos 2) ∷ []) ≡ None
no_fault = refl

too_few : argument_fault Strict (4 ∷ 5 ∷ []) (elem.Index (pos 0) ∷ []) ≡ Some IncompatibleShape
too_few = refl

first_at_fault : argument_fault Strict (4 ∷ 5 ∷ []) (elem.Slice (pos 0) None (pos 0) ∷ elem.Index (pos 9) ∷ []) ≡ Some Unsupported
first_at_fault = refl

index_not_clamped : argument_fault Clamp (4 ∷ []) (elem.Index (pos 4) ∷ []) ≡ Some OutOfBounds
index_not_clamped = refl
