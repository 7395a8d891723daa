-- The axes of a layout, with their lengths and strides.
use Rattle.std.specs.Prelude.{◌≡◌, ℕ, ◌+◌, ℤ, pos, negsuc, List, [], ◌∷◌, refl}
use Rattle.nd_base.specs.Signed.{all_signed}
use Rattle.nd_shape.specs.declared.axes_iter.AxisDescription.{AxisDescription}
use Rattle.nd_shape.specs.declared.axes_iter.Axes.{Axes}

-- the axis of a number
abbrev pub description : ℕ → ℕ → ℤ → AxisDescription
description n len stride = record { axis = record { 0 = n }; len = len; stride = stride }

-- the axes of these lengths and strides, counted from a number on
abbrev pub axes_from : ℕ → List ℕ → List ℤ → List AxisDescription
axes_from n [] strides = []
axes_from n (len ∷ shape) [] = []
axes_from n (len ∷ shape) (stride ∷ strides) = description n len stride ∷ axes_from (n + 1) shape strides

-- each axis of a layout once, in order
abbrev pub axes : List ℕ → List ℤ → List AxisDescription
axes shape strides = axes_from 0 shape strides

-- the axes that an iterator has still to give
abbrev pub axes_left : Axes → List AxisDescription
axes_left iter = axes_from iter.first iter.lens.now (all_signed iter.strides.now)

-- examples
of_two_axes : axes (2 ∷ 3 ∷ []) (pos 3 ∷ negsuc 0 ∷ []) ≡ description 0 2 (pos 3) ∷ description 1 3 (negsuc 0) ∷ []
of_two_axes = refl
