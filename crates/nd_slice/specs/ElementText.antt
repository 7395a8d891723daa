-- How the elements of a slice argument are written.
use Rattle.std.specs.Prelude.{◌≡◌, ℕ, pos, negsuc, None, List, codes, refl}
use Rattle.std.specs.Fmt.{digits, signed_decimal}
use Rattle.nd_slice.specs.SliceBounds.{slice_with}
use Rattle.nd_slice.specs.SliceText.{slice_text}
use Rattle.nd_slice.specs.declared.elem.SliceInfoElem.{SliceInfoElem}
use Rattle.nd_slice.specs.declared.elem.SliceInfoElem.TheVariants as elem

-- the text of an element: a range as its slice, an index as its number, a new axis by its name
abbrev pub elem_text : SliceInfoElem → List ℕ
elem_text (elem.Slice start end step) = slice_text (slice_with start end step)
elem_text (elem.Index index) = signed_decimal index
elem_text elem.NewAxis = codes "NewAxis"

-- examples
whole_axis : elem_text (elem.Slice (pos 0) None (pos 1)) ≡ codes ".."
whole_axis = refl

last_coordinate : elem_text (elem.Index (negsuc 0)) ≡ codes "-1"
unfolding digits
last_coordinate = refl

new_axis : elem_text elem.NewAxis ≡ codes "NewAxis"
new_axis = refl
