-- The lengths, the strides and the offset that a slice argument leaves of a layout.
use Rattle.std.specs.Prelude.{◌≡◌, ℕ, ℤ, pos, negsuc, ◌+ℤ◌, ◌*ℤ◌, Some, None, List, [], ◌∷◌, length, refl}
use Rattle.nd_slice.specs.declared.fit.Fit.{Fit}
use Rattle.nd_slice.specs.declared.fit.Fit.TheVariants.{Strict, Clamp}
use Rattle.nd_slice.specs.declared.elem.SliceInfoElem.{SliceInfoElem}
use Rattle.nd_slice.specs.declared.elem.SliceInfoElem.TheVariants as elem
use Rattle.nd_slice.specs.SlicedAxis.{picked_stride, first_offset}
use Rattle.nd_slice.specs.Picks.{picks}
use Rattle.nd_slice.specs.SliceBounds.{slice_with, meaning}

-- the lengths that an argument without fault leaves of a shape
abbrev pub sliced_shape : Fit → List SliceInfoElem → List ℕ → List ℕ
sliced_shape fit [] shape = []
sliced_shape fit (elem.NewAxis ∷ elems) shape = 1 ∷ sliced_shape fit elems shape
sliced_shape fit (elem.Slice start end step ∷ elems) [] = []
sliced_shape fit (elem.Slice start end step ∷ elems) (len ∷ shape) =
    length (picks fit len (slice_with start end step)) ∷ sliced_shape fit elems shape
sliced_shape fit (elem.Index index ∷ elems) [] = []
sliced_shape fit (elem.Index index ∷ elems) (len ∷ shape) = sliced_shape fit elems shape

-- the strides that an argument without fault leaves of those of a shape
abbrev pub sliced_strides : Fit → List SliceInfoElem → List ℕ → List ℤ → List ℤ
sliced_strides fit [] shape strides = []
sliced_strides fit (elem.NewAxis ∷ elems) shape strides = pos 0 ∷ sliced_strides fit elems shape strides
sliced_strides fit (elem.Slice start end step ∷ elems) (len ∷ shape) (stride ∷ strides) =
    picked_stride (length (picks fit len (slice_with start end step))) stride step ∷ sliced_strides fit elems shape strides
sliced_strides fit (elem.Index index ∷ elems) (len ∷ shape) (stride ∷ strides) = sliced_strides fit elems shape strides
sliced_strides fit (elem.Slice start end step ∷ elems) shape strides = []
sliced_strides fit (elem.Index index ∷ elems) shape strides = []

-- how many elements the first index that an argument leaves lies after the first index of the shape, with its sign
abbrev pub sliced_offset : Fit → List SliceInfoElem → List ℕ → List ℤ → ℤ
sliced_offset fit [] shape strides = pos 0
sliced_offset fit (elem.NewAxis ∷ elems) shape strides = sliced_offset fit elems shape strides
sliced_offset fit (elem.Slice start end step ∷ elems) (len ∷ shape) (stride ∷ strides) =
    first_offset (picks fit len (slice_with start end step)) stride +ℤ sliced_offset fit elems shape strides
sliced_offset fit (elem.Index index ∷ elems) (len ∷ shape) (stride ∷ strides) =
    (meaning len index *ℤ stride) +ℤ sliced_offset fit elems shape strides
sliced_offset fit (elem.Slice start end step ∷ elems) shape strides = pos 0
sliced_offset fit (elem.Index index ∷ elems) shape strides = pos 0

-- examples
back_by_two : sliced_shape Strict (elem.Slice (pos 1) None (negsuc 1) ∷ []) (4 ∷ []) ≡ 2 ∷ []
back_by_two = refl

back_by_two_strides : sliced_strides Strict (elem.Slice (pos 1) None (negsuc 1) ∷ []) (4 ∷ []) (pos 1 ∷ []) ≡ negsuc 1 ∷ []
back_by_two_strides = refl

back_by_two_offset : sliced_offset Strict (elem.Slice (pos 1) None (negsuc 1) ∷ []) (4 ∷ []) (pos 1 ∷ []) ≡ pos 3
back_by_two_offset = refl

clamped_offset : sliced_offset Clamp (elem.Slice (pos 3) (Some (pos 9)) (pos 1) ∷ []) (4 ∷ []) (pos 1 ∷ []) ≡ pos 3
clamped_offset = refl

row_with_new_axis : sliced_shape Strict (elem.Index (pos 1) ∷ elem.NewAxis ∷ elem.Slice (pos 0) None (pos 1) ∷ []) (2 ∷ 3 ∷ []) ≡ 1 ∷ 3 ∷ []
row_with_new_axis = refl

row_with_new_axis_strides : sliced_strides Strict (elem.Index (pos 1) ∷ elem.NewAxis ∷ elem.Slice (pos 0) None (pos 1) ∷ []) (2 ∷ 3 ∷ [])
    (pos 3 ∷ pos 1 ∷ [])
    ≡ pos 0 ∷ pos 1 ∷ []
row_with_new_axis_strides = refl
