-- Of which kind an element of a slice argument is.
use Rattle.std.specs.Prelude.{◌≡◌, Bool, true, false, pos, None, refl}
use Rattle.nd_slice.specs.declared.elem.SliceInfoElem.{SliceInfoElem}
use Rattle.nd_slice.specs.declared.elem.SliceInfoElem.TheVariants as elem

-- an element is a range with a step
abbrev pub is_slice : SliceInfoElem → Bool
is_slice (elem.Slice start end step) = true
is_slice (elem.Index index) = false
is_slice elem.NewAxis = false

-- an element is an index: one coordinate of its axis
abbrev pub is_index : SliceInfoElem → Bool
is_index (elem.Slice start end step) = false
is_index (elem.Index index) = true
is_index elem.NewAxis = false

-- an element is a new axis
abbrev pub is_new_axis : SliceInfoElem → Bool
is_new_axis (elem.Slice start end step) = false
is_new_axis (elem.Index index) = false
is_new_axis elem.NewAxis = true

-- examples
range_is_a_slice : is_slice (elem.Slice (pos 1) None (pos 2)) ≡ true
range_is_a_slice = refl

number_is_no_slice : is_slice (elem.Index (pos 1)) ≡ false
number_is_no_slice = refl

number_is_an_index : is_index (elem.Index (pos 1)) ≡ true
number_is_an_index = refl

new_axis_is_no_index : is_index elem.NewAxis ≡ false
new_axis_is_no_index = refl

new_axis_is_one : is_new_axis elem.NewAxis ≡ true
new_axis_is_one = refl

range_is_no_new_axis : is_new_axis (elem.Slice (pos 1) None (pos 2)) ≡ false
range_is_no_new_axis = refl
