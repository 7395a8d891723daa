-- Laws of the products of the lengths that are not 0.
use Rattle.std.proofs.Common.{◌≡◌, ◌≢◌, ℕ, zero, suc, ◌+◌, ◌*◌, ◌<◌, ◌≤◌, Bool, true, false, cond, eqb, List, [], ◌∷◌, ◌++◌, length}
use Rattle.std.proofs.Common.{reverse, drop, get_or, inl, inr, refl, ap, ◌∙◌, arith, add-one, drop-cons, mul-pos, le-mul_of_pos_right}
use Rattle.std.proofs.Common.{mul-le-mul_left, mul_comm, pos_of_ne-zero, zero-mul}
use Rattle.std.proofs.lemmas.Bool.{cases_eq, cond-true, cond-false, eq-eqb, ne_eqb, or_parts, eqb-false}
use Rattle.std.proofs.lemmas.List.{get_or_default}
use Rattle.nd_base.proofs.Laws.Definitions.{is_index, is_empty, nonzero_size, size}
use Rattle.nd_base.proofs.Laws.IsIndex.{length_of_index, coordinate_of_index}
use Rattle.nd_base.proofs.Laws.Lists.{fold-push, fold-reverse}

-- a zero length is passed over
pub nonzero_size_of_zero : (len : ℕ) (lens : List ℕ) → len ≡ 0 → nonzero_size (len ∷ lens) ≡ nonzero_size lens
nonzero_size_of_zero len lens h = cond-true (eqb len 0) (nonzero_size lens) (len * nonzero_size lens) (eq-eqb len 0 h)

-- any other is a factor
pub nonzero_size_of_other : (len : ℕ) (lens : List ℕ) → len ≢ 0 → nonzero_size (len ∷ lens) ≡ len * nonzero_size lens
nonzero_size_of_other len lens h = cond-false (eqb len 0) (nonzero_size lens) (len * nonzero_size lens) (ne_eqb len 0 h)

-- so the product is at least 1
pub nonzero_size_pos : (shape : List ℕ) → 0 < nonzero_size shape
nonzero_size_pos [] = omega arith
nonzero_size_pos (len ∷ lens) =
    elim (cases_eq len 0) [
      | inl e ↦ rw (nonzero_size_of_zero len lens e) (nonzero_size_pos lens)
      | inr e ↦ rw (nonzero_size_of_other len lens e) (mul-pos (pos_of_ne-zero e) (nonzero_size_pos lens))
    ]

-- with no zero length it is the size
pub nonzero_size_of_nonempty : (shape : List ℕ) → is_empty shape ≡ false → nonzero_size shape ≡ size shape
nonzero_size_of_nonempty [] h = refl
nonzero_size_of_nonempty (len ∷ lens) h =
    let parts = or_parts (eqb len 0) (is_empty lens) h in
    nonzero_size_of_other len lens (eqb-false len 0 parts.0) ∙ ap (λ n. len * n) (nonzero_size_of_nonempty lens parts.1)

-- and never less than the size
pub size_le_nonzero_size : (shape : List ℕ) → size shape ≤ nonzero_size shape
size_le_nonzero_size [] = omega arith
size_le_nonzero_size (zero ∷ lens) = rw zero-mul (omega arith)
size_le_nonzero_size (suc n ∷ lens) =
    rw (nonzero_size_of_other (suc n) lens (λ e. omega arith)) (mul-le-mul_left (suc n) (size_le_nonzero_size lens))

-- the product from axis k on, where its length is 0
pub nonzero_size_from_zero : (shape : List ℕ) (k : ℕ) → k < length shape → get_or shape k 0 ≡ 0
    → nonzero_size (drop k shape) ≡ nonzero_size (drop (k + 1) shape)
nonzero_size_from_zero shape k h e =
    rw add-one (ap nonzero_size (drop-cons shape k 0 h) ∙ nonzero_size_of_zero (get_or shape k 0) (drop (suc k) shape) e)

-- and where it is not
pub nonzero_size_from_other : (shape : List ℕ) (k : ℕ) → k < length shape → get_or shape k 0 ≢ 0
    → nonzero_size (drop k shape) ≡ get_or shape k 0 * nonzero_size (drop (k + 1) shape)
nonzero_size_from_other shape k h e =
    rw add-one (ap nonzero_size (drop-cons shape k 0 h) ∙ nonzero_size_of_other (get_or shape k 0) (drop (suc k) shape) e)

factors : (len rest : ℕ) → 0 < rest → (len ≤ cond (eqb len 0) rest (len * rest)) × (rest ≤ cond (eqb len 0) rest (len * rest))
factors len rest some = elim (cases_eq len 0) [
  | inl none ↦ rw (cond-true (eqb len 0) rest (len * rest) (eq-eqb len 0 none)) (omega arith, omega arith)
  | inr other ↦
      rw (cond-false (eqb len 0) rest (len * rest) (ne_eqb len 0 other))
      (le-mul_of_pos_right len some, rw (mul_comm len rest) (le-mul_of_pos_right rest (pos_of_ne-zero other)))
]

-- each length is at most the product
pub length_le_nonzero_size : (shape : List ℕ) (axis : ℕ) → get_or shape axis 0 ≤ nonzero_size shape
length_le_nonzero_size [] axis = omega arith
length_le_nonzero_size (len ∷ lens) zero = (factors len (nonzero_size lens) (nonzero_size_pos lens)).0
length_le_nonzero_size (len ∷ lens) (suc axis) =
    omega (arith, length_le_nonzero_size lens axis, (factors len (nonzero_size lens) (nonzero_size_pos lens)).1)

-- and so is each coordinate of an index
pub coordinate_le_nonzero_size : (shape index : List ℕ) → is_index shape index ≡ true
    → (k d : ℕ) → k < length index → get_or index k d ≤ nonzero_size shape
coordinate_le_nonzero_size shape index here k d below =
    let within : k < length shape = omega (arith, length_of_index shape index here) in
    omega (arith, get_or_default index k d 0 below, coordinate_of_index shape index k here within, length_le_nonzero_size shape k)

factors_swap : (t u : Bool) (a b n : ℕ)
    → cond t (cond u n (b * n)) (a * cond u n (b * n)) ≡ cond u (cond t n (a * n)) (b * cond t n (a * n))
factors_swap true true a b n = refl
factors_swap true false a b n = refl
factors_swap false true a b n = refl
factors_swap false false a b n = omega arith

-- one axis more at the back is one at the front
pub nonzero_size-push : (shape : List ℕ) (len : ℕ) → nonzero_size (shape ++ len ∷ []) ≡ nonzero_size (len ∷ shape)
nonzero_size-push = fold-push (λ n m. cond (eqb n 0) m (n * m)) nonzero_size (λ n lens. refl)
    (λ a b n. factors_swap (eqb a 0) (eqb b 0) a b n)

-- the axes read from the back have the same product
pub nonzero_size-reverse : (shape : List ℕ) → nonzero_size (reverse shape) ≡ nonzero_size shape
nonzero_size-reverse = fold-reverse (λ n m. cond (eqb n 0) m (n * m)) nonzero_size (λ n lens. refl)
    (λ a b n. factors_swap (eqb a 0) (eqb b 0) a b n)
