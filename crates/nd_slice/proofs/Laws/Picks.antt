-- The picks of a slice: coordinates of the axis, a step apart, none of them twice.
use Rattle.std.proofs.Common.{◌-◌, ◌*◌, inl, inr, arith, le-mul_of_pos_right, ◌≡◌, ℕ, ◌<◌, ◌≤◌, ℤ, pos, ◌+ℤ◌, ◌*ℤ◌, length, slice_index}
use Rattle.std.proofs.lemmas.Bool.{cases_lt}
use Rattle.std.specs.Int.{div_ceil}
use Rattle.nd_slice.proofs.Definitions.{Fit, Slice, SliceFits, between, end_meaning, magnitude, picks, start_meaning}
use Rattle.nd_slice.proofs.Laws.Between.{length-between, between_within, between_below, between_steps, between_apart, between_once}
use Rattle.nd_slice.proofs.Laws.AxisFault.{step_moves, end_below}

few : (count step n : ℕ) → 0 < step → (0 < count → (count - 1) * step < n) → count ≤ n
few count step n moves within = elim (cases_lt 0 count) [
  | inl some ↦ omega (arith, within some, le-mul_of_pos_right (count - 1) moves)
  | inr none ↦ omega arith
]

-- no more numbers than lie between two bounds
pub length-between_le : (step : ℤ) (start end : ℕ) → 0 < magnitude step → length (between step start end) ≤ end - start
length-between_le step start end moves =
    let count = length (between step start end) in
    few count (magnitude step) (end - start) moves (λ some. between_within step start end (count - 1) moves (omega arith))

module _ (fit : Fit) (len : ℕ) (slice : Slice) where
  abbrev start : ℕ
  start = magnitude (start_meaning fit len slice)

  abbrev end : ℕ
  end = magnitude (end_meaning fit len slice)

  -- a slice that fits picks every step-th coordinate of its range, and so many in all
  pub length-picks : SliceFits fit len slice → length (picks fit len slice)
      ≡ div_ceil (magnitude (end_meaning fit len slice) - magnitude (start_meaning fit len slice)) (magnitude slice.step)
  length-picks fits = length-between slice.step start end (step_moves fit len slice fits)

  -- at most as many as the axis has coordinates
  pub length-picks_le : SliceFits fit len slice → length (picks fit len slice) ≤ len
  length-picks_le fits =
      omega (arith, length-between_le slice.step start end (step_moves fit len slice fits), end_below fit len slice fits)

  -- each pick of a slice that fits is a coordinate of the axis
  pub pick_below : (j : ℕ) → SliceFits fit len slice → j < length (picks fit len slice) → slice_index (picks fit len slice) j < len
  pick_below j fits below =
      omega (arith, between_below slice.step start end j (step_moves fit len slice fits) below, end_below fit len slice fits)

  -- pick j is the first pick plus j times the step
  pub pick_apart : (j : ℕ) → j < length (picks fit len slice)
      → pos (slice_index (picks fit len slice) j) ≡ pos (slice_index (picks fit len slice) 0) +ℤ (pos j *ℤ slice.step)
  pick_apart j below = between_apart slice.step start end j below

  -- the same in elements, for coordinates of the axis that lie a stride apart
  pub pick_steps : (j : ℕ) (stride : ℤ) → j < length (picks fit len slice) → pos (slice_index (picks fit len slice) j) *ℤ stride
      ≡ (pos (slice_index (picks fit len slice) 0) *ℤ stride) +ℤ (pos j *ℤ (stride *ℤ slice.step))
  pick_steps j stride below = between_steps slice.step start end j stride below

  -- no coordinate is picked twice
  pub picks_injective : (i j : ℕ) → i < length (picks fit len slice) → j < length (picks fit len slice)
      → slice_index (picks fit len slice) i ≡ slice_index (picks fit len slice) j → i ≡ j
  picks_injective i j p q same = between_once start end i j slice.step p q same
