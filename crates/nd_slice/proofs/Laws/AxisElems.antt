-- The elements of an argument that are for the axes of a shape: one for each axis, where there are as many.
use Rattle.std.proofs.Common.{◌≡◌, ℕ, refl, ap, arith, List, [], ◌∷◌, length, map}
use Rattle.nd_slice.proofs.Definitions.{SliceInfoElem, axis_elems, in_count}
use Rattle.nd_slice.specs.declared.elem.SliceInfoElem.TheVariants as elem

-- without axes there are none
pub axis_elems-no_axes : (shape : List ℕ) (elems : List SliceInfoElem) → length shape ≡ 0 → axis_elems shape elems ≡ []
axis_elems-no_axes (len ∷ shape) elems none = absurd (omega arith)
axis_elems-no_axes [] [] none = refl
axis_elems-no_axes [] (elem.NewAxis ∷ elems) none = axis_elems-no_axes [] elems none
axis_elems-no_axes [] (elem.Slice start end step ∷ elems) none = refl
axis_elems-no_axes [] (elem.Index index ∷ elems) none = refl

-- where there are as many as axes, each axis has one
pub lens_of_axis_elems : (shape : List ℕ) (elems : List SliceInfoElem) → in_count elems ≡ length shape
    → map (λ one. one.0) (axis_elems shape elems) ≡ shape
lens_of_axis_elems [] [] count = refl
lens_of_axis_elems (len ∷ shape) [] count = absurd (omega arith)
lens_of_axis_elems shape (elem.NewAxis ∷ elems) count = lens_of_axis_elems shape elems count
lens_of_axis_elems [] (elem.Slice start end step ∷ elems) count = absurd (omega arith)
lens_of_axis_elems [] (elem.Index index ∷ elems) count = absurd (omega arith)
lens_of_axis_elems (len ∷ shape) (elem.Slice start end step ∷ elems) count =
    ap (λ lens. len ∷ lens) (lens_of_axis_elems shape elems (omega arith))
lens_of_axis_elems (len ∷ shape) (elem.Index index ∷ elems) count =
    ap (λ lens. len ∷ lens) (lens_of_axis_elems shape elems (omega arith))
