-- Which index of a shape an index of its slice stands for.
use Rattle.std.specs.Prelude.{◌≡◌, ℕ, pos, negsuc, Some, None, List, [], ◌∷◌, slice_index, refl}
use Rattle.nd_base.specs.Signed.{magnitude}
use Rattle.nd_slice.specs.declared.fit.Fit.{Fit}
use Rattle.nd_slice.specs.declared.fit.Fit.TheVariants.{Strict, Clamp}
use Rattle.nd_slice.specs.declared.elem.SliceInfoElem.{SliceInfoElem}
use Rattle.nd_slice.specs.declared.elem.SliceInfoElem.TheVariants as elem
use Rattle.nd_slice.specs.Picks.{picks}
use Rattle.nd_slice.specs.SliceBounds.{slice_with, meaning}

-- the index of a shape that an index of its slice stands for, read along the elements of an argument without fault: for a range
-- the coordinate is a position among its picks, for a new axis it says nothing, and an index has none, since it names the coordinate itself
abbrev pub selected : Fit → List SliceInfoElem → List ℕ → List ℕ → List ℕ
selected fit [] shape index = []
selected fit (elem.NewAxis ∷ elems) shape [] = []
selected fit (elem.NewAxis ∷ elems) shape (j ∷ index) = selected fit elems shape index
selected fit (elem.Slice start end step ∷ elems) (len ∷ shape) (j ∷ index) =
    slice_index (picks fit len (slice_with start end step)) j ∷ selected fit elems shape index
selected fit (elem.Index i ∷ elems) (len ∷ shape) index = magnitude (meaning len i) ∷ selected fit elems shape index
selected fit (elem.Slice start end step ∷ elems) shape index = []
selected fit (elem.Index i ∷ elems) shape index = []

-- examples
of_a_row : selected Strict (elem.Index (negsuc 0) ∷ elem.Slice (pos 1) None (negsuc 0) ∷ []) (2 ∷ 3 ∷ []) (0 ∷ []) ≡ 1 ∷ 2 ∷ []
of_a_row = refl

back_between_new_axes :
    selected Strict (elem.NewAxis ∷ elem.Slice (pos 1) None (negsuc 1) ∷ elem.NewAxis ∷ []) (4 ∷ []) (0 ∷ 1 ∷ 0 ∷ []) ≡ 1 ∷ []
back_between_new_axes = refl

back_from_past_the_end : selected Clamp (elem.Slice (negsuc 8) (Some (pos 9)) (negsuc 1) ∷ []) (4 ∷ []) (1 ∷ []) ≡ 1 ∷ []
back_from_past_the_end = refl
