-- The elements of a slice argument that are for the axes of a shape, each with the length of its axis.
use Rattle.std.specs.Prelude.{◌≡◌, ℕ, pos, negsuc, List, [], ◌∷◌, refl}
use Rattle.nd_slice.specs.declared.elem.SliceInfoElem.{SliceInfoElem}
use Rattle.nd_slice.specs.declared.elem.SliceInfoElem.TheVariants as elem

-- each element but a new axis is for the next axis, as long as there is one
abbrev pub axis_elems : List ℕ → List SliceInfoElem → List (ℕ × SliceInfoElem)
axis_elems shape [] = []
axis_elems shape (elem.NewAxis ∷ elems) = axis_elems shape elems
axis_elems [] (elem.Slice start end step ∷ elems) = []
axis_elems [] (elem.Index index ∷ elems) = []
axis_elems (len ∷ shape) (elem.Slice start end step ∷ elems) = (len, elem.Slice start end step) ∷ axis_elems shape elems
axis_elems (len ∷ shape) (elem.Index index ∷ elems) = (len, elem.Index index) ∷ axis_elems shape elems

-- examples
new_axis_for_none : axis_elems (4 ∷ 3 ∷ []) (elem.Index (pos 1) ∷ elem.NewAxis ∷ elem.Index (negsuc 0) ∷ [])
    ≡ (4, elem.Index (pos 1)) ∷ (3, elem.Index (negsuc 0)) ∷ []
new_axis_for_none = refl

no_axis_left : axis_elems (4 ∷ []) (elem.Index (pos 1) ∷ elem.Index (pos 2) ∷ []) ≡ (4, elem.Index (pos 1)) ∷ []
no_axis_left = refl

no_element_left : axis_elems (4 ∷ 3 ∷ []) (elem.NewAxis ∷ []) ≡ []
no_element_left = refl
