-- A range of coordinates on each axis of a layout: a part of the layout, that begins where the slice by the same ranges does.
use Rattle.std.proofs.Common.{◌≡◌, ℕ, suc, ◌+◌, ◌-◌, ◌<◌, ℤ, pos, ◌*ℤ◌, true, List, [], ◌∷◌, nat_lt, refl, sym, ap, ◌∙◌, inl, inr}
use Rattle.std.proofs.Common.{arith, Some, length}
use Rattle.std.proofs.Math.IntN.{zero-*ℤ}
use Rattle.std.specs.List.{range_with_len}
use Rattle.std.specs.Prelude.{max}
use Rattle.std.proofs.lemmas.Bool.{and_from, and_parts, lt-ltb, ltb-true}
use Rattle.nd_base.proofs.Laws.Definitions.{is_index, offset_of}
use Rattle.nd_base.specs.Elementwise.{differences, sums, DifferencesFit}
use Rattle.ndarray_layout.specs.CroppedView.{RangesFit, moved_starts}
use Rattle.nd_slice.specs.declared.fit.Fit.TheVariants.{Strict}
use Rattle.nd_slice.specs.SlicedAxis.{first_offset}
use Rattle.nd_slice.specs.Picks.{picks}
use Rattle.nd_slice.specs.SliceBounds.{slice_with}
use Rattle.nd_slice.specs.SlicedLayout.{sliced_offset}
use Rattle.nd_slice.proofs.Laws.UnitStep.{between_one, ranges_between}
use Rattle.ndarray_layout.proofs.AxisByAxis.{along-own, no_axes, range_cases, range_of, range_start}
use Rattle.ndarray_layout.proofs.Laws.Sources.{HasOwnSources, at_least}

rest : {len start end : ℕ} {shape starts ends : List ℕ} → RangesFit (len ∷ shape) (start ∷ starts) (end ∷ ends)
    → RangesFit shape starts ends
rest fit = record { in_order = fit.in_order.1; within = fit.within.1 }

-- a part of the layout: each coordinate lies as far on as the start, where that moves
pub cropped_sources : (shape starts ends : List ℕ) (strides : List ℤ) → length shape ≡ length strides → RangesFit shape starts ends
    → HasOwnSources (sums (moved_starts starts ends)) shape strides (offset_of strides (moved_starts starts ends))
    (differences ends starts) strides
cropped_sources [] [] [] [] e fit = no_axes refl
cropped_sources [] starts ends (stride ∷ strides) e fit = absurd (omega arith)
cropped_sources [] starts (end ∷ ends) [] e fit = absurd fit.within
cropped_sources [] (start ∷ starts) [] [] e fit = absurd fit.in_order
cropped_sources (len ∷ shape) starts ends [] e fit = absurd (omega arith)
cropped_sources (len ∷ shape) starts [] (stride ∷ strides) e fit = absurd fit.within
cropped_sources (len ∷ shape) [] (end ∷ ends) (stride ∷ strides) e fit = absurd fit.in_order
cropped_sources (len ∷ shape) (start ∷ starts) (end ∷ ends) (stride ∷ strides) e fit =
    along-own (range_of len start end stride fit.in_order.0 fit.within.0) (λ i j below also same. omega arith)
    (cropped_sources shape starts ends strides (omega arith) (rest fit)) refl (λ i index. refl)

-- where there is an index, each start moves
pub all_moved : (starts ends coordinates : List ℕ) → DifferencesFit ends starts → is_index (differences ends starts) coordinates ≡ true
    → sums (moved_starts starts ends) coordinates ≡ sums coordinates starts
all_moved [] [] [] fit here = refl
all_moved [] [] (i ∷ coordinates) fit here = absurd (cc)
all_moved [] (end ∷ ends) coordinates fit here = absurd fit
all_moved (start ∷ starts) [] coordinates fit here = absurd fit
all_moved (start ∷ starts) (end ∷ ends) [] fit here = absurd (cc)
all_moved (start ∷ starts) (end ∷ ends) (i ∷ coordinates) fit here =
    let parts = and_parts (nat_lt i (end - start)) (is_index (differences ends starts) coordinates) here in
    let below = ltb-true i (end - start) parts.0 in
    let first : range_start start end + i ≡ i + start = elim (range_cases start end) [
      | inl some ↦ omega (arith, some.1)
      | inr none ↦ absurd (omega (arith, none.0))
    ] in
    let others = all_moved starts ends coordinates fit.1 parts.1 in
    cc

-- the starts that move are an index where lengths of 0 count as 1
pub moved_starts_within : (shape starts ends : List ℕ) → RangesFit shape starts ends
    → is_index (at_least 1 shape) (moved_starts starts ends) ≡ true
moved_starts_within [] [] [] fit = refl
moved_starts_within [] [] (end ∷ ends) fit = absurd fit.within
moved_starts_within [] (start ∷ starts) [] fit = absurd fit.in_order
moved_starts_within [] (start ∷ starts) (end ∷ ends) fit = absurd fit.within
moved_starts_within (len ∷ shape) starts [] fit = absurd fit.within
moved_starts_within (len ∷ shape) [] (end ∷ ends) fit = absurd fit.in_order
moved_starts_within (len ∷ shape) (start ∷ starts) (end ∷ ends) fit =
    let within = fit.within.0 in
    let first : range_start start end < max 1 len = elim (range_cases start end) [
      | inl some ↦ omega (arith, some.0, some.1)
      | inr none ↦ omega (arith, none.1)
    ] in
    and_from (nat_lt (range_start start end) (max 1 len)) (is_index (at_least 1 shape) (moved_starts starts ends))
    (lt-ltb (range_start start end) (max 1 len) first)
    (moved_starts_within shape starts ends (rest fit))

-- the starts that move lie where the slice by these ranges begins
first_between : (len start end : ℕ) (stride : ℤ)
    → first_offset (picks Strict len (slice_with (pos start) (Some (pos end)) (pos 1))) stride ≡ pos (range_start start end) *ℤ stride
first_between len start end stride = ap (λ picked. first_offset picked stride) (between_one start end) ∙ elim (range_cases start end) [
  | inl some ↦
      let more : end - start ≡ suc (end - start - 1) = omega (arith, some.0) in
      ap (λ n. first_offset (range_with_len start n) stride) more ∙ ap (λ from. pos from *ℤ stride) (sym some.1)
  | inr none ↦
      let empty : end - start ≡ 0 = omega (arith, none.0) in
      ap (λ n. first_offset (range_with_len start n) stride) empty
      ∙ sym (zero-*ℤ stride)
      ∙ ap (λ from. pos from *ℤ stride) (sym none.1)
]

pub offset_as_sliced : (shape starts ends : List ℕ) (strides : List ℤ) → length shape ≡ length strides → RangesFit shape starts ends
    → offset_of strides (moved_starts starts ends) ≡ sliced_offset Strict (ranges_between starts ends) shape strides
offset_as_sliced [] [] [] [] e fit = refl
offset_as_sliced [] starts ends (stride ∷ strides) e fit = absurd (omega arith)
offset_as_sliced [] starts (end ∷ ends) [] e fit = absurd fit.within
offset_as_sliced [] (start ∷ starts) [] [] e fit = absurd fit.in_order
offset_as_sliced (len ∷ shape) starts ends [] e fit = absurd (omega arith)
offset_as_sliced (len ∷ shape) starts [] (stride ∷ strides) e fit = absurd fit.within
offset_as_sliced (len ∷ shape) [] (end ∷ ends) (stride ∷ strides) e fit = absurd fit.in_order
offset_as_sliced (len ∷ shape) (start ∷ starts) (end ∷ ends) (stride ∷ strides) e fit =
    let first = first_between len start end stride in
    let others = offset_as_sliced shape starts ends strides (omega arith) (rest fit) in
    cc
