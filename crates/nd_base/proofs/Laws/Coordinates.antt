-- Laws of single coordinates: of a shape and an index, and of one coordinate that takes another value.
use Rattle.std.proofs.Common.{◌≡◌, ◌⊎◌, ℕ, zero, suc, ◌+◌, ◌*◌, ◌<◌, ◌≤◌, ℤ, pos, true, List, [], ◌∷◌, length, get_or, set, refl, sym}
use Rattle.std.proofs.Common.{ap, ◌∙◌, arith, false, replicate, inl, inr, get_or-set_same, get_or-set_other}
use Rattle.std.specs.Prelude.{nat_lt}
use Rattle.std.proofs.lemmas.Bool.{and_from, cases_eq, cases_lt, lt-ltb}
use Rattle.std.proofs.lemmas.List.{length-set, set-get_or}
use Rattle.std.proofs.lemmas.Nat.{mul-le}
use Rattle.nd_base.proofs.Laws.Definitions.{is_index, is_empty, farthest_offset, magnitude, size}
use Rattle.nd_base.proofs.Laws.IsIndex.{length_of_index, coordinate_of_index, is_index-zeros, is_index_from_coordinates}

-- ---- which lists are indices
-- of as many coordinates as axes, either all are below the lengths or one is not
pub index_or_coordinate : (shape index : List ℕ) → length index ≡ length shape
    → (is_index shape index ≡ true) ⊎ ((axis : ℕ) × (axis < length shape) × (get_or shape axis 0 ≤ get_or index axis 0))
index_or_coordinate [] [] e = inl refl
index_or_coordinate [] (i ∷ index) e = absurd (omega arith)
index_or_coordinate (len ∷ shape) [] e = absurd (omega arith)
index_or_coordinate (len ∷ shape) (i ∷ index) e = elim (cases_lt i len) [
  | inl here ↦ elim (index_or_coordinate shape index (omega arith)) [
    | inl rest ↦ inl (and_from (nat_lt i len) (is_index shape index) (lt-ltb i len here) rest)
    | inr found ↦ inr (suc found.0, (let l = found.1 in omega arith), found.2)
  ]
  | inr past ↦ inr (0, omega arith, past)
]

-- an index of a shape is one of a shape of no smaller lengths
pub is_index_of_larger : (shape larger index : List ℕ) → length larger ≡ length shape
    → ((axis : ℕ) → axis < length shape → get_or shape axis 0 ≤ get_or larger axis 0) → is_index shape index ≡ true
    → is_index larger index ≡ true
is_index_of_larger shape larger index e h g =
    is_index_from_coordinates larger index (length_of_index shape index g ∙ sym e) (λ axis l.
    let in_bounds : axis < length shape = omega arith in
    let coordinate = coordinate_of_index shape index axis g in_bounds in
    let less = h axis in_bounds in
    omega arith)

module _ (shape index : List ℕ) (h : is_index shape index ≡ true) where
  -- an index with another coordinate is one of the shape with another length there
  pub is_index-set : (axis len i : ℕ) → axis < length shape → i < len → is_index (set shape axis len) (set index axis i) ≡ true
  is_index-set axis len i l below =
      let count = length_of_index shape index h in
      is_index_from_coordinates (set shape axis len) (set index axis i) (length-set index axis i ∙ count ∙ sym (length-set shape axis len))
      (λ k g.
      let in_bounds : k < length shape = omega (arith, length-set shape axis len) in
      elim (cases_eq k axis) [
        | inl same ↦
            let there : axis < length index = omega arith in
            rw (same, get_or-set_same shape axis len 0 l, get_or-set_same index axis i 0 there) below
        | inr other ↦ rw (get_or-set_other shape axis k len 0 other, get_or-set_other index axis k i 0 other)
            (coordinate_of_index shape index k h in_bounds)
      ])

-- one step along an axis from the first index
abbrev pub step_along : List ℕ → ℕ → List ℕ
step_along shape axis = set (replicate (length shape) 0) axis 1

-- it is an index where the axis has more than one coordinate
pub is_index-step_along : (shape : List ℕ) (axis : ℕ) → is_empty shape ≡ false → axis < length shape → 1 < get_or shape axis 0
    → is_index shape (step_along shape axis) ≡ true
is_index-step_along shape axis some h long =
    ap (λ s. is_index s (step_along shape axis)) (sym (set-get_or shape axis 0))
    ∙ is_index-set shape (replicate (length shape) 0) (is_index-zeros shape some) axis (get_or shape axis 0) 1 h long

-- ---- sizes
-- another length in place of 1 multiplies the size
pub size-set : (shape : List ℕ) (axis len : ℕ) → axis < length shape → get_or shape axis 0 ≡ 1
    → size (set shape axis len) ≡ size shape * len
size-set [] axis len l e = absurd (omega arith)
size-set (n ∷ shape) zero len l e = rw e (omega arith)
size-set (n ∷ shape) (suc axis) len l e = ap (λ m. n * m) (size-set shape axis len (omega arith) e) ∙ omega arith

-- no smaller lengths have no smaller product
pub size_le : (shape larger : List ℕ) → length larger ≡ length shape
    → ((axis : ℕ) → axis < length shape → get_or shape axis 0 ≤ get_or larger axis 0) → size shape ≤ size larger
size_le [] [] e h = omega arith
size_le [] (m ∷ larger) e h = absurd (omega arith)
size_le (n ∷ shape) [] e h = absurd (omega arith)
size_le (n ∷ shape) (m ∷ larger) e h =
    mul-le n (size shape) m (size larger) (h 0 (omega arith)) (size_le shape larger (omega arith) (λ axis l. h (suc axis) (omega arith)))

-- ---- how far an index lies
-- another coordinate moves the index along its axis
pub farthest_offset-set : (strides : List ℤ) (index : List ℕ) (axis i : ℕ) → length index ≡ length strides → axis < length index
    → farthest_offset strides (set index axis i) + get_or index axis 0 * magnitude (get_or strides axis (pos 0))
    ≡ farthest_offset strides index + i * magnitude (get_or strides axis (pos 0))
farthest_offset-set strides [] axis i e l = absurd (omega arith)
farthest_offset-set [] (j ∷ index) axis i e l = absurd (omega arith)
farthest_offset-set (stride ∷ strides) (j ∷ index) zero i e l = omega arith
farthest_offset-set (stride ∷ strides) (j ∷ index) (suc axis) i e l =
    omega (arith, farthest_offset-set strides index axis i (omega arith) (omega arith))

-- it lies no nearer than one of its coordinates alone
pub farthest_offset_ge_coordinate : (strides : List ℤ) (index : List ℕ) (axis : ℕ) → length index ≡ length strides → axis < length index
    → get_or index axis 0 * magnitude (get_or strides axis (pos 0)) ≤ farthest_offset strides index
farthest_offset_ge_coordinate strides [] axis e l = absurd (omega arith)
farthest_offset_ge_coordinate [] (j ∷ index) axis e l = absurd (omega arith)
farthest_offset_ge_coordinate (stride ∷ strides) (j ∷ index) zero e l = omega arith
farthest_offset_ge_coordinate (stride ∷ strides) (j ∷ index) (suc axis) e l =
    omega (arith, farthest_offset_ge_coordinate strides index axis (omega arith) (omega arith))
