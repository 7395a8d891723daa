-- What `picks` gives, coordinate by coordinate.
use Rattle.std.proofs.Common.{◌≡◌, ℕ, zero, suc, ◌+◌, ◌-◌, ◌*◌, ◌<◌, ◌≤◌, List, [], ◌∷◌, length, get_or, arith, refl, ap, ◌∙◌, inl, inr}
use Rattle.std.proofs.Common.{mul-le-mul_right}
use Rattle.std.proofs.lemmas.Bool.{cases_lt}
use Rattle.std.specs.Int.{div_ceil}
use Rattle.std.proofs.lemmas.Grind.{div_ceil_times}
use Rattle.nd_slice.proofs.Definitions.{every}
use Rattle.nd_slice.proofs.Every.{every_after, every_is}

-- the count c of the picks from n items, by its bounds
abbrev pub IsCeil : ℕ → ℕ → ℕ → Type 0
IsCeil n k c = (n ≤ c * k) × (c * k < n + k)

-- one more pick
ceil_more : (n m k c : ℕ) → 0 < k → n ≡ suc m → IsCeil (m - (k - 1)) k c → IsCeil n k (suc c)
ceil_more n m k zero p e h = (omega arith, omega arith)
ceil_more n m k (suc c) p e h = (omega arith, omega arith)

pub count_every_after : (k skip : ℕ) (xs : List ℕ) → 0 < k → IsCeil (length xs - skip) k (length (every_after k skip xs))
count_every_after k skip [] p = (omega arith, omega arith)
count_every_after k zero (x ∷ xs) p =
    ceil_more (suc (length xs) - 0) (length xs) k (length (every_after k (k - 1) xs)) p (omega arith) (count_every_after k (k - 1) xs p)
count_every_after k (suc skip) (x ∷ xs) p = let h = count_every_after k skip xs p in (omega arith, omega arith)

-- the bounds leave one count
ceil_le : (k : ℕ) {n c d : ℕ} → n ≤ c * k → d * k < n + k → d ≤ c
ceil_le k {c = c} {d = d} above below = elim (cases_lt c d) [
  | inl lt ↦ absurd (omega (arith, mul-le-mul_right k lt))
  | inr le ↦ le
]

-- so many of the items, rounded up
pub length-every : (k : ℕ) (xs : List ℕ) → 0 < k → length (every k xs) ≡ div_ceil (length xs) k
length-every k xs p =
    let same = ap length (every_is k xs p) in
    let h = count_every_after k 0 xs p in
    let g : IsCeil (length xs) k (div_ceil (length xs) k) = div_ceil_times (length xs) k p in
    let up : length (every_after k 0 xs) ≤ div_ceil (length xs) k = ceil_le k g.0 (omega (arith, h.1)) in
    let down : div_ceil (length xs) k ≤ length (every_after k 0 xs) = ceil_le k {n = length xs} (omega (arith, h.0)) g.1 in
    omega arith

-- a pick is within the items
pub every_within : (k : ℕ) (xs : List ℕ) (j : ℕ) → 0 < k → j < length (every k xs) → j * k < length xs
every_within k xs j p below =
    let same = ap length (every_is k xs p) in
    let h = count_every_after k 0 xs p in
    let below_after : suc j ≤ length (every_after k 0 xs) = omega arith in
    omega (arith, mul-le-mul_right k below_after)

-- the pick at j is the item at j times the step
pub get-every_after : (k skip : ℕ) (xs : List ℕ) (j i : ℕ) → 0 < k → i ≡ skip + j * k → get_or (every_after k skip xs) j 0 ≡ get_or xs i 0
get-every_after k skip [] j i p e = refl
get-every_after k zero (x ∷ xs) zero zero p e = refl
get-every_after k zero (x ∷ xs) zero (suc i) p e = absurd (omega arith)
get-every_after k zero (x ∷ xs) (suc j) zero p e = absurd (omega arith)
get-every_after k zero (x ∷ xs) (suc j) (suc i) p e = get-every_after k (k - 1) xs j i p (omega arith)
get-every_after k (suc skip) (x ∷ xs) j zero p e = absurd (omega arith)
get-every_after k (suc skip) (x ∷ xs) j (suc i) p e = get-every_after k skip xs j i p (omega arith)

pub get-every : (k : ℕ) (xs : List ℕ) (j : ℕ) → 0 < k → get_or (every k xs) j 0 ≡ get_or xs (j * k) 0
get-every k xs j p = ap (λ ys. get_or ys j 0) (every_is k xs p) ∙ get-every_after k 0 xs j (j * k) p (omega arith)
