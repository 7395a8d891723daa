-- Laws of sums over the axes, such as spans.
use Rattle.std.proofs.Common.{◌≡◌, ℕ, zero, suc, ◌+◌, ◌<◌, ◌≤◌, ℤ, pos, negsuc, min, List, [], ◌∷◌, ◌++◌, length, drop, get_or, reverse}
use Rattle.std.proofs.Common.{refl, ap, ◌∙◌, inl, inr, arith, add-one, drop-cons}
use Rattle.std.specs.Prelude.{remove}
use Rattle.std.proofs.lemmas.Bool.{cases_lt}
use Rattle.std.proofs.lemmas.List.{drop_all, length-reverse, reverse-append}
use Rattle.nd_base.proofs.Laws.Definitions.{all_signed, signed, high_span, low_span, reach, reach_down, reach_up, span, sum_over_axes}

-- ---- from an axis on
-- the sum over the axes from k on
abbrev pub sum_from : (ℕ → ℤ → ℕ) → List ℕ → List ℕ → ℕ → ℕ
sum_from f shape strides k = sum_over_axes f (drop k shape) (all_signed (drop k strides))

-- it is that of its first axis and that of the rest
pub sum_from_step : (f : ℕ → ℤ → ℕ) (shape strides : List ℕ) (k : ℕ) → k < length shape → k < length strides
    → sum_from f shape strides k ≡ f (get_or shape k 0) (signed (get_or strides k 0)) + sum_from f shape strides (k + 1)
sum_from_step f shape strides k h g =
    rw add-one (
    ap (λ s. sum_over_axes f s (all_signed (drop k strides))) (drop-cons shape k 0 h)
    ∙ ap (λ s. sum_over_axes f (get_or shape k 0 ∷ drop (suc k) shape) (all_signed s)) (drop-cons strides k 0 g)
    )

sum_of_none : (f : ℕ → ℤ → ℕ) (shape : List ℕ) → sum_over_axes f shape [] ≡ 0
sum_of_none f [] = refl
sum_of_none f (len ∷ shape) = refl

-- past the last axis it is 0
pub sum_from_end : (f : ℕ → ℤ → ℕ) (shape strides : List ℕ) (k : ℕ) → min (length shape) (length strides) ≤ k
    → sum_from f shape strides k ≡ 0
sum_from_end f shape strides k h =
    elim (cases_lt k (length shape)) [
      | inl l ↦
          let none : drop k strides ≡ [] = drop_all k strides (omega arith) in
          ap (λ s. sum_over_axes f (drop k shape) (all_signed s)) none ∙ sum_of_none f (drop k shape)
      | inr l ↦ ap (λ s. sum_over_axes f s (all_signed (drop k strides))) (drop_all k shape l)
    ]

-- ---- over all axes
-- a sum of smaller terms is no greater
pub sum_le : (f g : ℕ → ℤ → ℕ) → ((len : ℕ) (stride : ℤ) → f len stride ≤ g len stride) → (shape : List ℕ) (strides : List ℤ)
    → sum_over_axes f shape strides ≤ sum_over_axes g shape strides
sum_le f g h [] strides = omega arith
sum_le f g h (len ∷ shape) [] = omega arith
sum_le f g h (len ∷ shape) (stride ∷ strides) = omega (arith, h len stride, sum_le f g h shape strides)

-- a sum is the term of one axis and the sum over the others
pub sum_and_others : (f : ℕ → ℤ → ℕ) (shape : List ℕ) (strides : List ℤ) (k : ℕ) → k < length shape → length shape ≡ length strides
    → sum_over_axes f shape strides ≡ f (get_or shape k 0) (get_or strides k (pos 0)) + sum_over_axes f (remove shape k) (remove strides k)
sum_and_others f [] strides k h e = absurd (omega arith)
sum_and_others f (len ∷ shape) [] k h e = absurd (omega arith)
sum_and_others f (len ∷ shape) (stride ∷ strides) zero h e = refl
sum_and_others f (len ∷ shape) (stride ∷ strides) (suc k) h e = omega (arith, sum_and_others f shape strides k (omega arith) (omega arith))

-- so no axis reaches farther than all do together
pub reach_le_span : (shape : List ℕ) (strides : List ℤ) (k : ℕ) → k < length shape → length shape ≡ length strides
    → reach (get_or shape k 0) (get_or strides k (pos 0)) ≤ span shape strides
reach_le_span shape strides k below count = omega (arith, sum_and_others reach shape strides k below count)

-- one axis more is one term more
pub sum_over_axes-push : (f : ℕ → ℤ → ℕ) (shape : List ℕ) (strides : List ℤ) (len : ℕ) (stride : ℤ) → length shape ≡ length strides
    → sum_over_axes f (shape ++ len ∷ []) (strides ++ stride ∷ []) ≡ f len stride + sum_over_axes f shape strides
sum_over_axes-push f [] [] len stride e = refl
sum_over_axes-push f [] (s ∷ strides) len stride e = absurd (omega arith)
sum_over_axes-push f (n ∷ shape) [] len stride e = absurd (omega arith)
sum_over_axes-push f (n ∷ shape) (s ∷ strides) len stride e = omega (arith, sum_over_axes-push f shape strides len stride (omega arith))

-- the axes read from the back have the same sum
pub sum_over_axes-reverse : (f : ℕ → ℤ → ℕ) (shape : List ℕ) (strides : List ℤ) → length shape ≡ length strides
    → sum_over_axes f (reverse shape) (reverse strides) ≡ sum_over_axes f shape strides
sum_over_axes-reverse f [] [] e = refl
sum_over_axes-reverse f [] (s ∷ strides) e = absurd (omega arith)
sum_over_axes-reverse f (n ∷ shape) [] e = absurd (omega arith)
sum_over_axes-reverse f (n ∷ shape) (s ∷ strides) e =
    let counts : length (reverse shape) ≡ length (reverse strides) = omega (arith, length-reverse shape, length-reverse strides) in
    rw (reverse-append (n ∷ []) shape, reverse-append (s ∷ []) strides)
    (omega (
      arith,
      sum_over_axes-push f (reverse shape) (reverse strides) n s counts,
      sum_over_axes-reverse f shape strides (omega arith),
    ))

-- ---- below the first index and above it
-- an axis reaches down or up
pub reach_parts : (len : ℕ) (stride : ℤ) → reach_down len stride + reach_up len stride ≡ reach len stride
reach_parts len (pos s) = omega arith
reach_parts len (negsuc s) = omega arith

-- the span lies partly below the first index and partly above it
pub low_high_span : (shape : List ℕ) (strides : List ℤ) → low_span shape strides + high_span shape strides ≡ span shape strides
low_high_span [] strides = omega arith
low_high_span (len ∷ shape) [] = omega arith
low_high_span (len ∷ shape) (stride ∷ strides) = omega (arith, reach_parts len stride, low_high_span shape strides)
