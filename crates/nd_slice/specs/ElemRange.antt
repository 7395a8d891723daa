-- The range of an axis of which an element of a slice argument picks, and its step.
use Rattle.std.specs.Prelude.{◌≡◌, ℕ, ℤ, ◌+◌, max, pos, negsuc, Some, None, refl}
use Rattle.nd_base.specs.Signed.{magnitude}
use Rattle.nd_slice.specs.declared.fit.Fit.{Fit}
use Rattle.nd_slice.specs.declared.fit.Fit.TheVariants.{Strict, Clamp}
use Rattle.nd_slice.specs.declared.elem.SliceInfoElem.{SliceInfoElem}
use Rattle.nd_slice.specs.declared.elem.SliceInfoElem.TheVariants as elem
use Rattle.nd_slice.specs.declared.slice.Slice.{Slice}
use Rattle.nd_slice.specs.SliceBounds.{end_meaning, meaning, slice_with, start_meaning}

-- where a slice begins on an axis of length len, counted from 0, the number that it stops before, and its step: an end before the
-- start is the start
abbrev pub slice_range : Fit → ℕ → Slice → ℕ × ℕ × ℤ
slice_range fit len slice =
    let start = magnitude (start_meaning fit len slice) in
    (start, max start (magnitude (end_meaning fit len slice)), slice.step)

-- the same of an element: an index has the range of its coordinate, a new axis none
abbrev pub elem_range : Fit → ℕ → SliceInfoElem → ℕ × ℕ × ℤ
elem_range fit len (elem.Slice start end step) = slice_range fit len (slice_with start end step)
elem_range fit len (elem.Index index) = (magnitude (meaning len index), magnitude (meaning len index) + 1, pos 1)
elem_range fit len elem.NewAxis = (0, 0, pos 1)

-- examples
from_the_end : elem_range Strict 4 (elem.Slice (negsuc 2) None (negsuc 1)) ≡ (1, 4, negsuc 1)
from_the_end = refl

last_coordinate : elem_range Strict 4 (elem.Index (negsuc 0)) ≡ (3, 4, pos 1)
last_coordinate = refl

end_before_start : elem_range Strict 4 (elem.Slice (pos 3) (Some (pos 1)) (pos 1)) ≡ (3, 3, pos 1)
end_before_start = refl

clamped_end : elem_range Clamp 4 (elem.Slice (pos 3) (Some (pos 9)) (pos 1)) ≡ (3, 4, pos 1)
clamped_end = refl

new_axis_has_none : elem_range Strict 4 elem.NewAxis ≡ (0, 0, pos 1)
new_axis_has_none = refl
