-- The arithmetic of lists of lengths, number by number.
use Rattle.std.specs.Prelude.{◌≡◌, ℕ, ◌+◌, ◌-◌, ◌*◌, ◌^◌, ◌<◌, ◌≤◌, List, [], ◌∷◌, map, All, refl}
use Rattle.std.specs.List.{AllZip}
use Rattle.std.proofs.Math.Arith.{le→nltb}
use Rattle.std.proofs.Math.Dec.{lit<, lt→ltb}

-- f of each number of one list and the number of the other at the same axis
abbrev pub elementwise : (ℕ → ℕ → ℕ) → List ℕ → List ℕ → List ℕ
elementwise f [] ys = []
elementwise f (x ∷ xs) [] = []
elementwise f (x ∷ xs) (y ∷ ys) = f x y ∷ elementwise f xs ys

-- the sum at each axis
abbrev pub sums : List ℕ → List ℕ → List ℕ
sums = elementwise (λ x y. x + y)

-- the difference at each axis
abbrev pub differences : List ℕ → List ℕ → List ℕ
differences = elementwise (λ x y. x - y)

-- the product at each axis
abbrev pub products : List ℕ → List ℕ → List ℕ
products = elementwise (λ x y. x * y)

-- each number times one factor
abbrev pub scaled : List ℕ → ℕ → List ℕ
scaled xs factor = map (λ x. x * factor) xs

-- there are as many numbers in both lists, and each sum is a number of 64 bits
abbrev pub SumsFit : List ℕ → List ℕ → Type 0
SumsFit = AllZip (λ x y. x + y < 2 ^ 64)

-- there are as many numbers in both lists, and no difference is below 0
abbrev pub DifferencesFit : List ℕ → List ℕ → Type 0
DifferencesFit = AllZip (λ x y. y ≤ x)

-- there are as many numbers in both lists, and each product is a number of 64 bits
abbrev pub ProductsFit : List ℕ → List ℕ → Type 0
ProductsFit = AllZip (λ x y. x * y < 2 ^ 64)

-- each number times the factor is a number of 64 bits
abbrev pub ScaledFit : List ℕ → ℕ → Type 0
ScaledFit xs factor = All (λ x. x * factor < 2 ^ 64) xs

-- examples
two_sums : sums (3 ∷ 5 ∷ []) (1 ∷ 1 ∷ []) ≡ 4 ∷ 6 ∷ []
two_sums = refl

two_differences : differences (3 ∷ 5 ∷ []) (1 ∷ 2 ∷ []) ≡ 2 ∷ 3 ∷ []
two_differences = refl

two_products : products (3 ∷ 5 ∷ []) (1 ∷ 2 ∷ []) ≡ 3 ∷ 10 ∷ []
two_products = refl

twice : scaled (4 ∷ 6 ∷ []) 2 ≡ 8 ∷ 12 ∷ []
twice = refl

sums_of_other_counts : SumsFit (3 ∷ 5 ∷ []) (1 ∷ []) → ⊥
sums_of_other_counts fit = fit.1

sum_past_the_greatest : SumsFit (18446744073709551615 ∷ []) (1 ∷ []) → ⊥
sum_past_the_greatest fit = lt→ltb (2 ^ 64) (2 ^ 64) fit.0

difference_below_zero : DifferencesFit (3 ∷ []) (4 ∷ []) → ⊥
difference_below_zero fit = le→nltb 3 4 fit.0

product_past_the_greatest : ProductsFit (4294967296 ∷ []) (4294967296 ∷ []) → ⊥
product_past_the_greatest fit = lt→ltb (2 ^ 64) (2 ^ 64) fit.0

scaled_past_the_greatest : ScaledFit (9223372036854775808 ∷ []) 2 → ⊥
scaled_past_the_greatest fit = lt→ltb (2 ^ 64) (2 ^ 64) (fit 0 0 (lit< tt))
