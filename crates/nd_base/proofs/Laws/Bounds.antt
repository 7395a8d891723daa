-- Laws of layouts whose indices all lie within the data.
use Rattle.std.proofs.Common.{◌≡◌, ℕ, ◌<◌, ℤ, pos, negsuc, ◌≤ℤ◌, ◌<ℤ◌, List, length, arith}
use Rattle.std.proofs.lemmas.Int.{ints}
use Rattle.nd_base.proofs.Laws.Definitions.{IsInBounds, LiesInBounds, place, low_span, span}
use Rattle.nd_base.proofs.Laws.Offset.{offset_bounds}
use Rattle.nd_base.proofs.Laws.Span.{low_high_span}

-- a place from 0 on, below the count of elements
pub in_bounds_from : (len : ℕ) (z : ℤ) → pos 0 ≤ℤ z → z <ℤ pos len → IsInBounds len z
in_bounds_from len (pos n) low high = omega (arith, ints)
in_bounds_from len (negsuc n) low high = omega (arith, ints)

-- with the first index as far on as the layout reaches down, every index lies among the elements that the span counts
pub lies_in_bounds_from_span : (len : ℕ) (shape : List ℕ) (strides : List ℤ) → span shape strides < len → length shape ≡ length strides
    → LiesInBounds len (low_span shape strides) shape strides
lies_in_bounds_from_span len shape strides fits e index h =
    let bounds = offset_bounds shape strides index h e in
    let whole = low_high_span shape strides in
    in_bounds_from len (place (low_span shape strides) strides index)
    (omega (arith, ints, bounds.0))
    (omega (arith, ints, bounds.1, whole))
