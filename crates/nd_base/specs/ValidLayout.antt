-- A shape and strides on which every sum and product of this layer fits.
use Rattle.std.specs.Prelude.{◌≡◌, ℕ, ◌≤◌, ℤ, pos, negsuc, List, [], ◌∷◌, length, nat_eq, refl}
use Rattle.std.proofs.Common.{eq-eqb}
use Rattle.std.proofs.Math.Arith.{le→nltb}
use Rattle.std.proofs.Math.Dec.{lit≤}
use Rattle.std.proofs.lemmas.Bool.{both_ways}
use Rattle.nd_base.specs.Size.{nonzero_size, limit}
use Rattle.nd_base.specs.Span.{span}

-- one stride for each length, with the product of the lengths that are not 0 and the span within the limit
pub record IsValidLayout (shape : List ℕ) (strides : List ℤ) : Type 0 where
  pub same_count : length shape ≡ length strides
  pub size_fits : nonzero_size shape ≤ limit
  pub span_fits : span shape strides ≤ limit

-- examples
two_by_three : IsValidLayout (2 ∷ 3 ∷ []) (negsuc 2 ∷ pos 1 ∷ [])
two_by_three = record { same_count = refl; size_fits = lit≤ tt; span_fits = lit≤ tt }

too_far : IsValidLayout (2 ∷ []) (negsuc 9223372036854775807 ∷ []) → ⊥
too_far valid = le→nltb limit 9223372036854775808 valid.span_fits

one_stride_short : IsValidLayout (2 ∷ 3 ∷ []) (pos 1 ∷ []) → ⊥
one_stride_short valid = both_ways (nat_eq 2 1) refl (eq-eqb 2 1 valid.same_count)
