-- What an element picks of an axis lies between the bounds of its range, a step apart, and a range without fault ends on the axis.
use Rattle.std.proofs.Common.{◌≡◌, ℕ, ℤ, ◌+◌, ◌-◌, ◌≤◌, None, max, arith, refl, ap, ◌∙◌}
use Rattle.nd_slice.proofs.Definitions.{Fit, SliceInfoElem, between, directed, elem_fault, elem_picks, end_meaning, every, magnitude}
use Rattle.std.specs.List.{range_with_len}
use Rattle.nd_slice.proofs.Definitions.{meaning, slice_with, start_meaning}
use Rattle.nd_slice.specs.ElemRange.{elem_range}
use Rattle.nd_slice.specs.declared.elem.SliceInfoElem.TheVariants as elem
use Rattle.nd_slice.proofs.Laws.AxisFault.{coordinate_below, end_below, fits_of_no_fault, index_fits_of_no_fault}
use Rattle.nd_slice.proofs.Laws.AxisFault.{start_below}

module _ (fit : Fit) (len : ℕ) where
  picks_between : (e : SliceInfoElem)
      → between (elem_range fit len e).2 (elem_range fit len e).0 (elem_range fit len e).1 ≡ elem_picks fit len e
  picks_between (elem.Slice start end step) =
      let slice = slice_with start end step in
      let first = magnitude (start_meaning fit len slice) in
      let last = magnitude (end_meaning fit len slice) in
      let count : max first last - first ≡ last - first = omega arith in
      ap (λ (n : ℕ). every (magnitude step) (directed step (range_with_len first n))) count
  picks_between (elem.Index index) =
      let coordinate = magnitude (meaning len index) in
      let one : coordinate + 1 - coordinate ≡ 1 = omega arith in
      ap (λ (n : ℕ). every 1 (range_with_len coordinate n)) one
  picks_between elem.NewAxis = refl

  pub picks_of_range : (e : SliceInfoElem) {start end : ℕ} {step : ℤ} → (start, end, step) ≡ elem_range fit len e
      → between step start end ≡ elem_picks fit len e
  picks_of_range e same = ap (λ (r : ℕ × ℕ × ℤ). between r.2 r.0 r.1) same ∙ picks_between e

  within : (e : SliceInfoElem) → elem_fault fit len e ≡ None → (elem_range fit len e).1 ≤ len
  within (elem.Slice start end step) none =
      let fits = fits_of_no_fault fit len (slice_with start end step) none in
      omega (arith, start_below fit len (slice_with start end step) fits, end_below fit len (slice_with start end step) fits)
  within (elem.Index index) none = omega (arith, (coordinate_below len index (index_fits_of_no_fault len index none)).1)
  within elem.NewAxis none = omega arith

  pub end_of_range : (e : SliceInfoElem) {start end : ℕ} {step : ℤ} → (start, end, step) ≡ elem_range fit len e
      → elem_fault fit len e ≡ None → end ≤ len
  end_of_range e same none = omega (arith, ap (λ (r : ℕ × ℕ × ℤ). r.1) same, within e none)
