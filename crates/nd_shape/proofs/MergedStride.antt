-- Which stride has the coordinates of two axes, and which have one.
use Rattle.std.proofs.Common.{◌≡◌, ◌≢◌, ℕ, zero, suc, ◌+◌, ◌-◌, ◌*◌, ◌<◌, ◌≤◌, ◌/◌, ◌%◌, ℤ, pos, ◌+ℤ◌, ◌-ℤ◌, ◌*ℤ◌, List, [], ◌∷◌, length}
use Rattle.std.proofs.Common.{get_or}
use Rattle.std.proofs.Common.{inl, inr, refl, sym, ap, ◌∙◌, arith, mul-le-mul_left, pos_of_ne-zero, zero-mul}
use Rattle.std.proofs.Math.Nat.{div-add-mod, div-eq_of_lt, div-one, div_self, mod-eq_of_lt, mod-one, mod_self, mul_comm}
use Rattle.std.proofs.lemmas.Bool.{cases_eq}
use Rattle.std.proofs.lemmas.Int.{ints}
use Rattle.nd_base.specs.Size.{nonzero_size}
use Rattle.nd_base.proofs.Laws.NonzeroSize.{length_le_nonzero_size, nonzero_size_of_other, nonzero_size_of_zero}
use Rattle.nd_base.proofs.Laws.Span.{reach_le_span}
use Rattle.nd_base.proofs.Laws.Times.{times_sum, times_times}
use Rattle.nd_base.specs.Span.{reach, span}
use Rattle.nd_shape.specs.Merge.{IsMergedStride, MergeFits}

-- an axis of length at most 1 adds nothing to the other
pub short_taken : (take_len : ℕ) (take_stride : ℤ) (into_len : ℕ) (into_stride : ℤ) → take_len ≤ 1
    → IsMergedStride take_len take_stride into_len into_stride into_stride
short_taken zero take_stride into_len into_stride h j l = absurd (omega (arith, zero-mul into_len))
short_taken (suc n) take_stride into_len into_stride h j l =
    let one : suc n ≡ 1 = omega arith in
    let less : j < into_len = omega (arith, ap (λ m. m * into_len) one) in
    rw (div-eq_of_lt less, mod-eq_of_lt less) (omega (arith, ints))

pub into_short : (take_len : ℕ) (take_stride : ℤ) (into_len : ℕ) (into_stride : ℤ) → into_len ≤ 1
    → IsMergedStride take_len take_stride into_len into_stride take_stride
into_short take_len take_stride zero into_stride h j l = absurd (omega arith)
into_short take_len take_stride (suc n) into_stride h j l =
    let one : suc n ≡ 1 = omega arith in
    let q : j / suc n ≡ j = ap (λ m. j / m) one ∙ div-one j in
    let r : j % suc n ≡ 0 = ap (λ m. j % m) one ∙ mod-one j in
    rw (q, r) (omega (arith, ints))

whole_steps : (q n r : ℕ) (s : ℤ) → pos (n * q + r) *ℤ s ≡ (pos q *ℤ (pos n *ℤ s)) +ℤ (pos r *ℤ s)
whole_steps q n r s = times_sum (n * q) r s ∙ ap (λ m. (pos m *ℤ s) +ℤ (pos r *ℤ s)) (mul_comm n q)
    ∙ ap (λ z. z +ℤ (pos r *ℤ s)) (sym (times_times q n s))

module _ (take_len : ℕ) (take_stride : ℤ) (into_len : ℕ) (into_stride : ℤ) where
  -- a stride as long as the other axis' coordinates goes on where that one ends
  pub steps_on : take_stride ≡ pos into_len *ℤ into_stride → IsMergedStride take_len take_stride into_len into_stride into_stride
  steps_on e j l =
      sym (ap (λ i. pos i *ℤ into_stride) (div-add-mod j into_len))
      ∙ whole_steps (j / into_len) into_len (j % into_len) into_stride
      ∙ sym (ap (λ s. (pos (j / into_len) *ℤ s) +ℤ (pos (j % into_len) *ℤ into_stride)) e)

  -- and no other one does, where both axes have more than one coordinate
  pub steps_on_from_fit : 1 < take_len → 1 < into_len → MergeFits take_len take_stride into_len into_stride
      → take_stride ≡ pos into_len *ℤ into_stride
  steps_on_from_fit h g fits =
      let s = fits.0 in
      let few : into_len * 2 ≤ into_len * take_len = mul-le-mul_left into_len (omega arith) in
      let first = fits.1 1 (omega arith) in
      let q1 : 1 / into_len ≡ 0 = div-eq_of_lt g in
      let r1 : 1 % into_len ≡ 1 = mod-eq_of_lt g in
      let at_one : pos 1 *ℤ s ≡ (pos 0 *ℤ take_stride) +ℤ (pos 1 *ℤ into_stride) = rw (q1, r1) at first in
      let same : s ≡ into_stride = omega (arith, ints) in
      let next = fits.1 into_len (omega arith) in
      let q2 : into_len / into_len ≡ 1 = div_self (omega arith) in
      let r2 : into_len % into_len ≡ 0 = mod_self into_len in
      let at_end : pos into_len *ℤ s ≡ (pos 1 *ℤ take_stride) +ℤ (pos 0 *ℤ into_stride) = rw (q2, r2) at next in
      omega (arith, ints, ap (λ z. pos into_len *ℤ z) same)

-- the lengths of two axes make no greater product than all that aren't 0
pub two_lengths_le : (shape : List ℕ) (axis other : ℕ) → axis < length shape → other < length shape → axis ≢ other
    → get_or shape axis 0 * get_or shape other 0 ≤ nonzero_size shape
two_lengths_le [] axis other h g ne = absurd (omega arith)
two_lengths_le (len ∷ lens) zero zero h g ne = absurd (ne refl)
two_lengths_le (len ∷ lens) zero (suc other) h g ne =
    let rest = length_le_nonzero_size lens other in
    elim (cases_eq len 0) [
      | inl e ↦ rw (e, zero-mul) (omega arith)
      | inr e ↦ rw (nonzero_size_of_other len lens e) (mul-le-mul_left len rest)
    ]
two_lengths_le (len ∷ lens) (suc axis) zero h g ne =
    let rest = length_le_nonzero_size lens axis in
    elim (cases_eq len 0) [
      | inl e ↦ omega (arith, ap (λ n. get_or lens axis 0 * n) e)
      | inr e ↦ rw (nonzero_size_of_other len lens e) (omega (arith, mul-le-mul_left len rest))
    ]
two_lengths_le (len ∷ lens) (suc axis) (suc other) h g ne =
    let rest = two_lengths_le lens axis other (omega arith) (omega arith) (λ e. ne (ap suc e)) in
    elim (cases_eq len 0) [
      | inl e ↦ rw (nonzero_size_of_zero len lens e) rest
      | inr e ↦
          let more : 1 * nonzero_size lens ≤ len * nonzero_size lens =
          omega (arith, mul-le-mul_left (nonzero_size lens) (pos_of_ne-zero e)) in
          rw (nonzero_size_of_other len lens e) (omega arith)
    ]

-- two axes reach no further than all do together
pub two_reaches_le : (shape : List ℕ) (strides : List ℤ) (axis other : ℕ) → (axis < length shape) × (other < length shape)
    → length shape ≡ length strides → axis ≢ other
    → reach (get_or shape axis 0) (get_or strides axis (pos 0))
    + reach (get_or shape other 0) (get_or strides other (pos 0)) ≤ span shape strides
two_reaches_le [] strides axis other h e ne = absurd (omega (arith, h.0))
two_reaches_le (len ∷ shape) [] axis other h e ne = absurd (omega arith)
two_reaches_le (len ∷ shape) (stride ∷ strides) zero zero h e ne = absurd (ne refl)
two_reaches_le (len ∷ shape) (stride ∷ strides) zero (suc other) h e ne =
    omega (arith, reach_le_span shape strides other (omega (arith, h.1)) (omega arith))
two_reaches_le (len ∷ shape) (stride ∷ strides) (suc axis) zero h e ne =
    omega (arith, reach_le_span shape strides axis (omega (arith, h.0)) (omega arith))
two_reaches_le (len ∷ shape) (stride ∷ strides) (suc axis) (suc other) h e ne =
    omega (arith, two_reaches_le shape strides axis other (omega (arith, h.0), omega (arith, h.1)) (omega arith) (λ same. ne (ap suc same)))

-- a stride is the length of an axis times another one where it is one less than that from this one on
pub goes_on_from_second : (len : ℕ) (stride other : ℤ) → 0 < len
    → (stride -ℤ other ≡ pos (len - 1) *ℤ other → stride ≡ pos len *ℤ other)
    × (stride ≡ pos len *ℤ other → stride -ℤ other ≡ pos (len - 1) *ℤ other)
goes_on_from_second len stride other some =
    let count : len - 1 + 1 ≡ len = omega arith in
    let one : pos 1 *ℤ other ≡ other = omega (arith, ints) in
    let whole : pos len *ℤ other ≡ (pos (len - 1) *ℤ other) +ℤ other =
    sym (ap (λ n. pos n *ℤ other) count) ∙ times_sum (len - 1) 1 other ∙ ap (λ z. (pos (len - 1) *ℤ other) +ℤ z) one in
    (λ e. omega (arith, ints, e, whole), λ e. omega (arith, ints, e, whole))
