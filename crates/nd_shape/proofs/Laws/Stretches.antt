-- Laws of a shape that another one can be stretched to: the one that both have in common.
use Rattle.std.proofs.Common.{◌≡◌, ◌⊎◌, ℕ, ◌+◌, ◌-◌, ◌<◌, ◌≤◌, Some, List, length, get_or, inl, inr}
use Rattle.std.proofs.Common.{refl, sym, ap, ◌∙◌, arith}
use Rattle.std.proofs.lemmas.Bool.Decides.{nat_tests}
use Rattle.nd_shape.specs.CommonShape.{common_length, padded, common_shape}
use Rattle.nd_shape.proofs.CommonShapeByAxis.{after_front, axes_of_common, common_shape_by_axes, common_shape_of_longer}
use Rattle.nd_shape.proofs.Laws.CommonShape.{common_shape-commutes, common_shape_count, length-padded}

-- each axis has a length of 1, or that of the axis of the shape that lies as far from the last
abbrev pub StretchesTo : List ℕ → List ℕ → Type 0
StretchesTo shape other = (k : ℕ) → k < length other
    → (get_or other k 0 ≡ get_or shape (length shape - length other + k) 0) ⊎ (get_or other k 0 ≡ 1)

stays_or_stretches : (len other : ℕ) → common_length len other ≡ Some len → (other ≡ len) ⊎ (other ≡ 1)
stays_or_stretches len other h = grind (arith, nat_tests)

stretched_to : (len other : ℕ) → (other ≡ len) ⊎ (other ≡ 1) → common_length len other ≡ Some len
stretched_to len other (inl e) = grind (arith, nat_tests)
stretched_to len other (inr e) = grind (arith, nat_tests)

-- a shape that is the common one of itself and another has no fewer axes, and the other stretches to it
pub stretches_to_common : (shape other : List ℕ) → common_shape other shape ≡ Some shape
    → (length other ≤ length shape) × StretchesTo shape other
stretches_to_common shape other h =
    let count = common_shape_count other shape shape h in
    let fewer : length other ≤ length shape = omega arith in
    let turned = sym (common_shape_of_longer shape other fewer) ∙ common_shape-commutes shape other ∙ h in
    let as_many : length shape ≡ length (padded (length shape) other) = sym (length-padded (length shape) other fewer) in (
      fewer,
      λ k l.
          let i = length shape - length other + k in
          let here = axes_of_common shape (padded (length shape) other) shape as_many turned i (omega arith) in
          stays_or_stretches (get_or shape i 0) (get_or other k 0)
          (ap (common_length (get_or shape i 0)) (sym (after_front shape other k)) ∙ here),
    )

-- and where it has no fewer and the other stretches to it, it is the common one
pub common_from_stretches : (shape other : List ℕ) → length other ≤ length shape → StretchesTo shape other
    → common_shape other shape ≡ Some shape
common_from_stretches shape other fewer stretches =
    common_shape-commutes other shape
    ∙ common_shape_by_axes shape other shape fewer refl (λ k l. refl)
    (λ k l. stretched_to (get_or shape (length shape - length other + k) 0) (get_or other k 0) (stretches k l))
