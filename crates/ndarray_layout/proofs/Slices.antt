-- A slice of a layout is a part of it.
use Rattle.std.proofs.Common.{◌≡◌, ℕ, ℤ, pos, ◌+ℤ◌, ◌*ℤ◌, List, [], ◌∷◌, length, get_or, None, inl, inr, refl, sym, ap, arith}
use Rattle.std.proofs.Math.IntN.{zero-*ℤ}
use Rattle.std.proofs.lemmas.Bool.{cases_lt}
use Rattle.std.proofs.lemmas.Int.{ints}
use Rattle.std.proofs.lemmas.List.{get_or_past}
use Rattle.nd_slice.specs.declared.fit.Fit.{Fit}
use Rattle.nd_slice.specs.declared.slice.Slice.{Slice}
use Rattle.nd_slice.specs.declared.elem.SliceInfoElem.{SliceInfoElem}
use Rattle.nd_slice.specs.declared.elem.SliceInfoElem.TheVariants as elem
use Rattle.nd_slice.specs.AxisFault.{SliceFits}
use Rattle.nd_slice.specs.Picks.{picks}
use Rattle.nd_slice.specs.Selected.{selected}
use Rattle.nd_slice.specs.SliceBounds.{slice_with}
use Rattle.nd_slice.specs.SlicedAxis.{first_offset, picked_stride}
use Rattle.nd_slice.specs.SlicedLayout.{sliced_offset, sliced_shape, sliced_strides}
use Rattle.nd_slice.specs.SliceFault.{first_fault, in_count}
use Rattle.nd_slice.proofs.Laws.AxisFault.{coordinate_below}
use Rattle.nd_slice.proofs.Laws.Offsets.{picked_few, picked_many}
use Rattle.nd_slice.proofs.Laws.Picks.{pick_below, pick_steps, picks_injective}
use Rattle.nd_slice.proofs.Laws.SliceFault.{index_of_no_fault, slice_of_no_fault}
use Rattle.ndarray_layout.proofs.AxisByAxis.{AreCoordinatesApart, AxisHasSources, along-own, at_coordinate, no_axes, one_new_axis}
use Rattle.ndarray_layout.proofs.Laws.Sources.{HasOwnSources}

-- ---- one axis
first_pick : (picked : List ℕ) (stride : ℤ) → first_offset picked stride ≡ pos (get_or picked 0 0) *ℤ stride
first_pick [] stride = sym (zero-*ℤ stride)
first_pick (pick ∷ others) stride = refl

-- the picks of a slice
module _ (fit : Fit) (len : ℕ) (slice : Slice) (fits : SliceFits fit len slice) where
  abbrev picked : List ℕ
  picked = picks fit len slice

  pub picked_axis : (stride : ℤ)
      → AxisHasSources (λ j. get_or picked j 0) len stride (first_offset picked stride) (length picked)
      (picked_stride (length picked) stride slice.step)
  picked_axis stride = record {
    within = λ least j few below. elim (cases_lt j (length picked)) [
      | inl some ↦ omega (arith, pick_below fit len slice j fits some)
      | inr none ↦ omega (arith, get_or_past picked j 0 none)
    ];
    offset = λ j below. elim (cases_lt 1 (length picked)) [
      | inl many ↦ rw (first_pick picked stride, picked_many (length picked) stride slice.step many)
          (pick_steps fit len slice j stride (omega arith))
      | inr few ↦
          let first : j ≡ 0 = omega arith in
          rw (first, first_pick picked stride, picked_few (length picked) stride slice.step few) (omega (arith, ints))
    ];
  }

  picks_apart : AreCoordinatesApart (λ j. get_or picked j 0) (length picked)
  picks_apart i j here there same = elim (cases_lt 0 (length picked)) [
    | inl some ↦ picks_injective fit len slice i j (omega arith) (omega arith) same
    | inr none ↦ omega arith
  ]

-- ---- all axes
pub sliced_sources : (fit : Fit) (elems : List SliceInfoElem) (shape : List ℕ) (strides : List ℤ) → length shape ≡ length strides
    → in_count elems ≡ length shape → first_fault fit shape elems ≡ None
    → HasOwnSources (selected fit elems shape) shape strides (sliced_offset fit elems shape strides) (sliced_shape fit elems shape)
    (sliced_strides fit elems shape strides)
sliced_sources fit [] [] strides e count none = no_axes refl
sliced_sources fit [] (len ∷ shape) strides e count none = absurd (omega arith)
sliced_sources fit (elem.NewAxis ∷ elems) shape strides e count none =
    one_new_axis (pos 0) (sliced_sources fit elems shape strides e count none) (λ i index. refl)
sliced_sources fit (elem.Slice start end step ∷ elems) [] strides e count none = absurd (omega arith)
sliced_sources fit (elem.Slice start end step ∷ elems) (len ∷ shape) [] e count none = absurd (omega arith)
sliced_sources fit (elem.Slice start end step ∷ elems) (len ∷ shape) (stride ∷ strides) e count none =
    let slice : Slice = slice_with start end step in
    let fits = slice_of_no_fault fit len shape slice elems none in
    along-own (picked_axis fit len slice fits.0 stride) (picks_apart fit len slice fits.0)
    (sliced_sources fit elems shape strides (omega arith) (omega arith) fits.1) refl (λ i index. refl)
sliced_sources fit (elem.Index i ∷ elems) [] strides e count none = absurd (omega arith)
sliced_sources fit (elem.Index i ∷ elems) (len ∷ shape) [] e count none = absurd (omega arith)
sliced_sources fit (elem.Index i ∷ elems) (len ∷ shape) (stride ∷ strides) e count none =
    let fits = index_of_no_fault fit len shape i elems none in
    let coordinate = coordinate_below len i fits.0 in
    at_coordinate coordinate.1 (sliced_sources fit elems shape strides (omega arith) (omega arith) fits.1)
    (ap (λ z. (z *ℤ stride) +ℤ sliced_offset fit elems shape strides) coordinate.0) (λ index. refl)
