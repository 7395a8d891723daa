-- Laws of the axes of a layout as a list.
use Rattle.std.proofs.Common.{◌≡◌, ℕ, ◌+◌, ℤ, List, [], ◌∷◌, ◌++◌, length, map, refl, ap, ◌∙◌, arith}
use Rattle.nd_shape.specs.Axes.{description, axes_from}

-- each axis is there once
pub length-axes_from : (n : ℕ) (shape : List ℕ) (strides : List ℤ) → length shape ≡ length strides
    → length (axes_from n shape strides) ≡ length shape
length-axes_from n [] strides e = refl
length-axes_from n (len ∷ shape) [] e = absurd (omega arith)
length-axes_from n (len ∷ shape) (stride ∷ strides) e = omega (arith, length-axes_from (n + 1) shape strides (omega arith))

-- their lengths are the shape
pub lens-axes_from : (n : ℕ) (shape : List ℕ) (strides : List ℤ) → length shape ≡ length strides
    → map (λ axis. axis.len) (axes_from n shape strides) ≡ shape
lens-axes_from n [] strides e = refl
lens-axes_from n (len ∷ shape) [] e = absurd (omega arith)
lens-axes_from n (len ∷ shape) (stride ∷ strides) e = ap (λ lens. len ∷ lens) (lens-axes_from (n + 1) shape strides (omega arith))

-- and their strides the strides
pub strides-axes_from : (n : ℕ) (shape : List ℕ) (strides : List ℤ) → length shape ≡ length strides
    → map (λ axis. axis.stride) (axes_from n shape strides) ≡ strides
strides-axes_from n [] [] e = refl
strides-axes_from n [] (stride ∷ strides) e = absurd (omega arith)
strides-axes_from n (len ∷ shape) [] e = absurd (omega arith)
strides-axes_from n (len ∷ shape) (stride ∷ strides) e = ap (λ kept. stride ∷ kept) (strides-axes_from (n + 1) shape strides (omega arith))

-- one axis more is the last one
pub axes_from-push : (n : ℕ) (shape : List ℕ) (strides : List ℤ) (len : ℕ) (stride : ℤ) → length shape ≡ length strides
    → axes_from n (shape ++ len ∷ []) (strides ++ stride ∷ []) ≡ axes_from n shape strides ++ description (n + length shape) len stride ∷ []
axes_from-push n [] [] len stride e = ap (λ m. description m len stride ∷ []) (omega arith)
axes_from-push n [] (s ∷ strides) len stride e = absurd (omega arith)
axes_from-push n (l ∷ shape) [] len stride e = absurd (omega arith)
axes_from-push n (l ∷ shape) (s ∷ strides) len stride e =
    ap (λ others. description n l s ∷ others)
    (axes_from-push (n + 1) shape strides len stride (omega arith)
    ∙ ap (λ m. axes_from (n + 1) shape strides ++ description m len stride ∷ []) (omega arith))
