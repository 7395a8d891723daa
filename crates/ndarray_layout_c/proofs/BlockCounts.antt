-- How many blocks lie along each axis, and the product of these counts and the lengths of a block.
use Rattle.std.proofs.Common.{◌≡◌, ℕ, zero, suc, ◌*◌, ◌<◌, Bool, true, false, cond, eqb, List, [], ◌∷◌, ◌++◌, length, get_or}
use Rattle.std.proofs.Common.{refl, sym, ap, ◌∙◌, arith, mul_assoc, one-mul}
use Rattle.ndarray_layout.specs.Elementwise.{elementwise}
use Rattle.ndarray_layout.specs.Size.{nonzero_size}

module _ (f : ℕ → ℕ → ℕ) where
  pub length_of_each : (xs ys : List ℕ) → length ys ≡ length xs → length (elementwise f xs ys) ≡ length xs
  length_of_each [] ys same = refl
  length_of_each (x ∷ xs) [] same = absurd (omega (arith, same))
  length_of_each (x ∷ xs) (y ∷ ys) same = ap suc (length_of_each xs ys (omega (arith, same)))

  pub each_at : (xs ys : List ℕ) (k : ℕ) → length ys ≡ length xs → k < length xs
      → get_or (elementwise f xs ys) k 0 ≡ f (get_or xs k 0) (get_or ys k 0)
  each_at [] ys k same below = absurd (omega (arith, below))
  each_at (x ∷ xs) [] k same below = absurd (omega (arith, same))
  each_at (x ∷ xs) (y ∷ ys) zero same below = refl
  each_at (x ∷ xs) (y ∷ ys) (suc k) same below = each_at xs ys k (omega (arith, same)) (omega (arith, below))

-- the lengths of two lists one after the other that are not 0
pub product_of_both : (lens others : List ℕ) → nonzero_size (lens ++ others) ≡ nonzero_size lens * nonzero_size others
product_of_both [] others = sym (one-mul (nonzero_size others))
product_of_both (len ∷ lens) others = by (eqb len 0) (product_of_both lens others)
  where
    by : (zero : Bool) → nonzero_size (lens ++ others) ≡ nonzero_size lens * nonzero_size others
        → cond zero (nonzero_size (lens ++ others)) (len * nonzero_size (lens ++ others))
        ≡ cond zero (nonzero_size lens) (len * nonzero_size lens) * nonzero_size others
    by true same = same
    by false same = ap (λ n. len * n) same ∙ sym (mul_assoc len (nonzero_size lens) (nonzero_size others))
