-- What an iterator over the axes gives.
use Rattle.std.proofs.Common.{◌≡◌, ℕ, ◌+◌, List, [], ◌∷◌, ◌++◌, length, ap, ◌∙◌, arith}
use Rattle.std.proofs.lemmas.List.{length-map, map-append}
use Rattle.std.specs.Iterator.{YieldsFirst, YieldsLast}
use Rattle.std.specs.Iterator.Runs.{YieldsInOrder, YieldsInReverse}
use Rattle.std.proofs.iter.runs.Sources.{from_front, from_back, as_is, as_is_back}
use Rattle.nd_base.specs.Signed.{signed, all_signed}
use Rattle.nd_shape.specs.declared.axes_iter.Axes.{Axes}
use Rattle.nd_shape.specs.Axes.{description, axes_from, axes_left}
use Rattle.nd_shape.proofs.Laws.Axes.{length-axes_from, axes_from-push}

-- as many axes as lengths are left
pub length-axes_left : (iter : Axes) → length (axes_left iter) ≡ length iter.lens.now
length-axes_left iter = length-axes_from iter.first iter.lens.now (all_signed iter.strides.now)
    (omega (arith, iter.same_count, length-map iter.strides.now signed))

-- the axis at the back comes off the back of both lists
pub axes_left-push : (first : ℕ) (lens strides : List ℕ) (len stride : ℕ) → length lens ≡ length strides
    → axes_from first (lens ++ len ∷ []) (all_signed (strides ++ stride ∷ []))
    ≡ axes_from first lens (all_signed strides) ++ description (first + length lens) len (signed stride) ∷ []
axes_left-push first lens strides len stride e =
    ap (axes_from first (lens ++ len ∷ [])) (map-append signed strides (stride ∷ []))
    ∙ axes_from-push first lens (all_signed strides) len (signed stride) (omega (arith, e, length-map strides signed))

-- all that is left comes from the front in order, and from the back in reverse
pub axes_in_order : YieldsInOrder (YieldsFirst axes_left) axes_left
axes_in_order p s = as_is p (axes_left p.from) (from_front (YieldsFirst axes_left) (λ x. x) axes_left
    (λ s t h. ap length h.0) (λ s x t h. h) p s)

pub axes_in_reverse : YieldsInReverse (YieldsLast axes_left) axes_left
axes_in_reverse p s = as_is_back p (axes_left p.from) (from_back (YieldsLast axes_left) (λ x. x) axes_left
    (λ s t h. ap length h.0) (λ s x t h. h) p s)
