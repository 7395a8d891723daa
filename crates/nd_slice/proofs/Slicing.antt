-- Facts for one axis that is sliced between two bounds.
use Rattle.std.proofs.Common.{◌≡◌, ℕ, ◌-◌, ◌*◌, ◌<◌, ◌≤◌, max, List, length, get_or, arith, sym, ap, ◌∙◌, inl, inr, None}
use Rattle.std.proofs.Common.{ℤ, pos, ◌+ℤ◌, ◌*ℤ◌, FitsSigned, w64}
use Rattle.std.proofs.lemmas.Bool.{cases_lt}
use Rattle.std.proofs.lemmas.Int.{ints, fits_signed_mul}
use Rattle.std.proofs.Math.IntN.{*ℤ-zero}
use Rattle.std.specs.List.{range_with_len}
use Rattle.nd_slice.proofs.Definitions.{Fit, Slice, between, directed, end_meaning, every, first_offset, limit, magnitude, picked_stride}
use Rattle.nd_slice.proofs.Definitions.{picks, reach, slice_fault, start_meaning}
use Rattle.nd_slice.proofs.Laws.AxisFault.{fits_of_no_fault, step_moves}
use Rattle.nd_slice.proofs.Laws.Offsets.{offset_of_some, picked_few, picked_many}
use Rattle.nd_slice.proofs.Laws.Between.{between_steps, between_below, between_within, some_between}

-- the picks of a slice, by the bounds that it means
module _ (fit : Fit) (len : ℕ) (slice : Slice) where
  pub picks_between : (start end : ℕ) → pos start ≡ start_meaning fit len slice → end ≡ max start (magnitude (end_meaning fit len slice))
      → picks fit len slice ≡ between slice.step start end
  picks_between start end s e =
      let from = magnitude (start_meaning fit len slice) in
      let to = magnitude (end_meaning fit len slice) in
      let first : from ≡ start = sym (ap magnitude s) in
      let count : to - from ≡ end - start = omega arith in
      ap (λ (xs : List ℕ). every (magnitude slice.step) (directed slice.step xs))
      (ap (λ n. range_with_len n (to - from)) first ∙ ap (λ n. range_with_len start n) count)

  -- a slice that fits has a step
  pub moves : (step : ℤ) → None ≡ slice_fault fit len slice → step ≡ slice.step → 0 < magnitude step
  moves step e same = rw same (step_moves fit len slice (fits_of_no_fault fit len slice (sym e)))

-- the products that the code makes fit
pub offset_fits : (len first : ℕ) (s : ℤ) → first < len → reach len s ≤ limit → FitsSigned w64 (pos first *ℤ s)
offset_fits len first s h fits = fits_signed_mul w64 (pos first) s (len - 1) (magnitude s) (omega arith) (omega arith) (omega arith)

module _ (step : ℤ) (start end : ℕ) where
  pub stride_fits : (len : ℕ) (s : ℤ) → 0 < magnitude step → end ≤ len → reach len s ≤ limit → 1 < length (between step start end)
      → FitsSigned w64 (s *ℤ step)
  stride_fits len s p h fits many =
      let far : 1 * magnitude step < end - start = between_within step start end 1 p many in
      fits_signed_mul w64 s step (magnitude s) (len - 1) (omega arith) (omega arith) (omega arith)

  -- each pick lies as many new strides on
  pub picked_steps : (j : ℕ) (s : ℤ) → j < length (between step start end)
      → pos (get_or (between step start end) j 0) *ℤ s
      ≡ first_offset (between step start end) s +ℤ (pos j *ℤ picked_stride (length (between step start end)) s step)
  picked_steps j s below =
      let xs : List ℕ = between step start end in
      let count = length xs in
      let first : first_offset xs s ≡ pos (get_or xs 0 0) *ℤ s = offset_of_some xs s (omega arith) in
      elim (cases_lt 1 count) [
        | inl many ↦
            between_steps step start end j s below
            ∙ sym (ap (λ x. x +ℤ (pos j *ℤ picked_stride count s step)) first
            ∙ ap (λ x. (pos (get_or xs 0 0) *ℤ s) +ℤ (pos j *ℤ x)) (picked_many count s step many))
        | inr few ↦
            let here : pos (get_or xs j 0) *ℤ s ≡ pos (get_or xs 0 0) *ℤ s = ap (λ n. pos (get_or xs n 0) *ℤ s) (omega arith) in
            let still : pos j *ℤ picked_stride count s step ≡ pos 0 = ap (λ x. pos j *ℤ x) (picked_few count s step few)
            ∙ *ℤ-zero (pos j) in
            omega (arith, ints, here, still, first)
      ]

  -- the first pick is a coordinate
  pub first_below : (first : ℕ) → 0 < magnitude step → start < end → first ≡ get_or (between step start end) 0 0 → first < end
  first_below first p some e = omega (arith, between_below step start end 0 p (some_between step start end p some))
