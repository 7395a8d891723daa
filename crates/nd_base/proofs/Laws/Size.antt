-- Laws of sizes, the products of lengths.
use Rattle.std.proofs.Common.{◌≡◌, ℕ, zero, suc, ◌+◌, ◌-◌, ◌*◌, ◌<◌, ◌≤◌, Bool, true, false, ◌||◌, eqb, List, [], ◌∷◌, ◌++◌, length}
use Rattle.std.proofs.Common.{get_or, take, drop, reverse, refl, sym, ap, ◌∙◌, inl, inr, arith, add-one, drop-cons, eqb-true}
use Rattle.std.proofs.Common.{mul-le-mul_left, mul-one, mul-pos, mul-zero, mul_assoc, mul_comm, one-mul, pos_of_ne-zero, zero-mul}
use Rattle.std.proofs.Math.Bool.{or_assoc, or_comm}
use Rattle.std.proofs.Math.Nat.{mul_left_comm}
use Rattle.std.proofs.lemmas.Bool.{or_cases, or_parts, eqb-false}
use Rattle.std.proofs.lemmas.List.{take_more}
use Rattle.std.proofs.lemmas.Nat.{mul-le}
use Rattle.nd_base.specs.Size.{size, is_empty}
use Rattle.nd_base.proofs.Laws.Lists.{fold-push, fold-reverse}

-- ---- shapes with a zero length, and without
-- a zero length makes the size 0
pub size_of_empty : (shape : List ℕ) → is_empty shape ≡ true → size shape ≡ 0
size_of_empty [] h = absurd (cc)
size_of_empty (n ∷ lens) h = elim (or_cases (eqb n 0) (is_empty lens) h) [
  | inl z ↦ ap (λ m. m * size lens) (eqb-true n 0 z) ∙ zero-mul (size lens)
  | inr e ↦ ap (λ s. n * s) (size_of_empty lens e) ∙ mul-zero n
]

-- with no zero length the size is at least 1
pub size_of_nonempty : (shape : List ℕ) → is_empty shape ≡ false → 0 < size shape
size_of_nonempty [] h = omega arith
size_of_nonempty (n ∷ lens) h =
    let parts = or_parts (eqb n 0) (is_empty lens) h in
    mul-pos (pos_of_ne-zero (eqb-false n 0 parts.0)) (size_of_nonempty lens parts.1)

-- its lengths are too
pub length_pos : (shape : List ℕ) (axis : ℕ) → is_empty shape ≡ false → axis < length shape → 0 < get_or shape axis 0
length_pos [] axis some below = absurd (omega arith)
length_pos (len ∷ lens) zero some below = pos_of_ne-zero (eqb-false len 0 (or_parts (eqb len 0) (is_empty lens) some).0)
length_pos (len ∷ lens) (suc axis) some below =
    length_pos lens axis (or_parts (eqb len 0) (is_empty lens) some).1 (omega arith)

-- the part of a shape without a zero length has none
pub drop_nonempty : (shape : List ℕ) (k : ℕ) → is_empty shape ≡ false → is_empty (drop k shape) ≡ false
drop_nonempty shape zero h = h
drop_nonempty [] (suc k) h = h
drop_nonempty (n ∷ lens) (suc k) h = drop_nonempty lens k (or_parts (eqb n 0) (is_empty lens) h).1

or_flipped : (a b c : Bool) → (a || (b || c)) ≡ (b || (a || c))
or_flipped a b c = sym (or_assoc a b c) ∙ ap (λ t. t || c) (or_comm a b) ∙ or_assoc b a c

-- one axis more at the back is one at the front
pub is_empty-push : (shape : List ℕ) (len : ℕ) → is_empty (shape ++ len ∷ []) ≡ is_empty (len ∷ shape)
is_empty-push shape len = fold-push (λ n b. eqb n 0 || b) is_empty (λ n lens. refl) (λ m n b. or_flipped (eqb m 0) (eqb n 0) b) shape len

-- the axes read from the back have a zero length where the shape has one
pub is_empty-reverse : (shape : List ℕ) → is_empty (reverse shape) ≡ is_empty shape
is_empty-reverse = fold-reverse (λ n b. eqb n 0 || b) is_empty (λ n lens. refl) (λ m n b. or_flipped (eqb m 0) (eqb n 0) b)

-- ---- shapes one after the other
-- the axes of two shapes have both sizes as factors
pub size-append : (xs ys : List ℕ) → size (xs ++ ys) ≡ size xs * size ys
size-append [] ys = sym (one-mul (size ys))
size-append (x ∷ xs) ys = ap (λ s. x * s) (size-append xs ys) ∙ sym (mul_assoc x (size xs) (size ys))

-- one axis more is one factor more
pub size-push : (shape : List ℕ) (len : ℕ) → size (shape ++ len ∷ []) ≡ len * size shape
size-push = fold-push (λ n s. n * s) size (λ n lens. refl) mul_left_comm

-- the axes read from the back have the same size
pub size-reverse : (shape : List ℕ) → size (reverse shape) ≡ size shape
size-reverse = fold-reverse (λ n s. n * s) size (λ n lens. refl) mul_left_comm

-- ---- parts of a shape
-- the size from an axis on is its length times the size after it
pub size_from : (shape : List ℕ) (k : ℕ) → k < length shape → size (drop k shape) ≡ get_or shape k 0 * size (drop (k + 1) shape)
size_from shape k h = rw add-one (ap size (drop-cons shape k 0 h))

-- the size up to an axis and with it is the size before it times its length
pub size_take_more : (lens : List ℕ) (k : ℕ) → k < length lens → size (take (k + 1) lens) ≡ size (take k lens) * get_or lens k 0
size_take_more lens k h = ap size (take_more lens k 0 h) ∙ size-append (take k lens) (get_or lens k 0 ∷ [])
    ∙ ap (λ m. size (take k lens) * m) (mul-one (get_or lens k 0))

-- one length before those whose product is known
pub size_drop_more : (lens : List ℕ) (axis whole : ℕ) → 0 < axis → axis ≤ length lens → whole ≡ size (drop axis lens)
    → whole * get_or lens (axis - 1) 0 ≡ size (drop (axis - 1) lens)
size_drop_more lens axis whole h g e =
    let k = axis - 1 in
    let here : axis ≡ k + 1 = omega arith in
    let after = e ∙ ap (λ a. size (drop a lens)) here in
    mul_comm whole (get_or lens k 0) ∙ ap (λ s. get_or lens k 0 * s) after ∙ sym (size_from lens k (omega arith))

-- no front of a shape without a zero length is of greater size
pub size_take_le : (lens : List ℕ) (k : ℕ) → is_empty lens ≡ false → size (take k lens) ≤ size lens
size_take_le lens zero h = size_of_nonempty lens h
size_take_le [] (suc k) h = omega arith
size_take_le (n ∷ lens) (suc k) h = mul-le-mul_left n (size_take_le lens k (or_parts (eqb n 0) (is_empty lens) h).1)

-- nor is what comes after the front
pub size_drop_le : (lens : List ℕ) (k : ℕ) → is_empty lens ≡ false → size (drop k lens) ≤ size lens
size_drop_le lens zero h = omega arith
size_drop_le [] (suc k) h = omega arith
size_drop_le (n ∷ lens) (suc k) h =
    let rest = size_drop_le lens k (or_parts (eqb n 0) (is_empty lens) h).1 in
    let more = mul-le 1 (size lens) n (size lens) (length_pos (n ∷ lens) 0 h (omega arith)) (omega arith) in
    omega (arith, one-mul (size lens))
