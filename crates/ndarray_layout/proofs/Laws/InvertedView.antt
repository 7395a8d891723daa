-- Laws of views with an axis backwards.
use Rattle.std.proofs.Common.{◌≡◌, ◌≢◌, ◌⊎◌, ℕ, ◌+◌, ◌-◌, ◌*◌, ◌<◌, ◌≤◌, ℤ, pos, negsuc, zero, suc, neg_ℤ, ◌+ℤ◌}
use Rattle.std.proofs.Common.{◌*ℤ◌, cond, None, Some, List, length, get_or, set, refl, sym, ap, ◌∙◌, inl, inr, arith}
use Rattle.std.specs.Ordering.{int_eq}
use Rattle.std.specs.Prelude.{nat_lt}
use Rattle.std.proofs.lemmas.Bool.{cases_Bool, cond-true, cond-false, ltb-true, lt-ltb}
use Rattle.std.proofs.lemmas.Bool.Decides.{Decides-int_eq}
use Rattle.std.proofs.lemmas.Int.{ints}
use Rattle.std.proofs.lemmas.List.{get_or-set_same, set-get_or, set-set}
use Rattle.nd_base.specs.declared.error.ErrorKind.TheVariants.{OutOfBounds}
use Rattle.nd_base.proofs.Laws.Definitions.{limit, reach}
use Rattle.nd_base.proofs.Laws.Signed.{magnitude_from}
use Rattle.nd_base.proofs.Laws.Span.{reach_le_span}
use Rattle.nd_base.proofs.Laws.Times.{times_sum}
use Rattle.ndarray_layout.specs.Descends.{Descends}
use Rattle.ndarray_layout.specs.InvertedView.{invert_fault, opposite_stride, inverted_start, inverted_of, invert_source}
use Rattle.ndarray_layout.specs.View.{View, IsPlace, IsView}
use Rattle.ndarray_layout.proofs.AxisByAxis.{AxisHasSources}
use Rattle.ndarray_layout.proofs.OneAxis.{set_axis}
use Rattle.ndarray_layout.proofs.Passed.{passed}
use Rattle.ndarray_layout.proofs.Laws.Sources.{Descends-own_sources, HasOwnSources, start_within}

-- an axis without fault is there
pub axis_of_no_fault : (shape : List ℕ) (axis : ℕ) → invert_fault shape axis ≡ None → axis < length shape
axis_of_no_fault shape axis none = ltb-true axis (length shape) (passed OutOfBounds (nat_lt axis (length shape)) none)

pub no_fault_of_axis : (shape : List ℕ) (axis : ℕ) → axis < length shape → invert_fault shape axis ≡ None
no_fault_of_axis shape axis there = ap (λ here. cond here None (Some OutOfBounds)) (lt-ltb axis (length shape) there)

-- ---- the opposite stride
-- a stride has the other sign, or it is the one that has no opposite
pub opposite_cases : (stride : ℤ)
    → ((stride ≡ negsuc 9223372036854775807) × (opposite_stride stride ≡ negsuc 9223372036854775807))
    ⊎ (opposite_stride stride ≡ neg_ℤ stride)
opposite_cases stride = elim (cases_Bool (int_eq stride (negsuc 9223372036854775807))) [
  | inl least ↦
      let is = (Decides-int_eq stride (negsuc 9223372036854775807)).0 least in
      inl (is, cond-true {A = ℤ} (int_eq stride (negsuc 9223372036854775807)) stride (neg_ℤ stride) least ∙ is)
  | inr other ↦ inr (cond-false {A = ℤ} (int_eq stride (negsuc 9223372036854775807)) stride (neg_ℤ stride) other)
]

opposite_twice : (stride : ℤ) → stride ≢ pos 9223372036854775808 → opposite_stride (opposite_stride stride) ≡ stride
opposite_twice stride small = elim (opposite_cases stride) [
  | inl least ↦ ap opposite_stride least.1 ∙ sym least.0
  | inr negative ↦ elim (opposite_cases (neg_ℤ stride)) [
    | inl least ↦ absurd (small (omega (arith, ints, least.0)))
    | inr back ↦ ap opposite_stride negative ∙ back ∙ omega (arith, ints)
  ]
]

-- an axis with that one has no second coordinate
pub none_after_first : (len : ℕ) {stride : ℤ} → stride ≡ negsuc 9223372036854775807 → reach len stride ≤ limit → len - 1 ≡ 0
none_after_first len least fits =
    let far : (len - 1) * 9223372036854775808 ≤ limit = rw least at fits in
    omega arith

pub times_negative : (i : ℕ) (stride : ℤ) → (pos i *ℤ neg_ℤ stride) +ℤ (pos i *ℤ stride) ≡ pos 0
times_negative i (pos zero) = omega (arith, ints)
times_negative i (pos (suc s)) = omega (arith, ints)
times_negative i (negsuc s) = omega (arith, ints)

-- along it each coordinate lies as far on the other side
times_opposite : (len i : ℕ) (stride : ℤ) → reach len stride ≤ limit → i ≤ len - 1
    → (pos i *ℤ opposite_stride stride) +ℤ (pos i *ℤ stride) ≡ pos 0
times_opposite len i stride fits h = elim (opposite_cases stride) [
  | inl least ↦
      let first : i ≡ 0 = omega (arith, none_after_first len least.0 fits) in
      rw (first, least.1, least.0) (omega (arith, ints))
  | inr negative ↦ ap (λ other. (pos i *ℤ other) +ℤ (pos i *ℤ stride)) negative ∙ times_negative i stride
]

-- ---- an axis of a view
module _ (axis : ℕ) (view : View) (v : IsView view) (there : axis < length view.shape) where
  abbrev len : ℕ
  len = get_or view.shape axis 0

  abbrev stride : ℤ
  stride = get_or view.strides axis (pos 0)

  turned : (i : ℕ) → i ≤ len - 1 → (pos i *ℤ opposite_stride stride) +ℤ (pos i *ℤ stride) ≡ pos 0
  turned i h =
      times_opposite len i stride (omega (arith, reach_le_span view.shape view.strides axis there v.valid.same_count, v.valid.span_fits)) h

  backwards : AxisHasSources (λ i. len - 1 - i) len stride (pos (len - 1) *ℤ stride) len (opposite_stride stride)
  backwards = record {
    within = λ least i few below. omega arith;
    offset = λ i below.
        let back = len - 1 - i in
        let all : len - 1 ≡ back + i = omega arith in
        omega (arith, ints, ap (λ n. pos n *ℤ stride) all, times_sum back i stride, turned i (omega arith));
  }

  own : HasOwnSources (invert_source axis view.shape) view.shape view.strides (pos (len - 1) *ℤ stride) view.shape
      (set view.strides axis (opposite_stride stride))
  own = rw (set-get_or view.shape axis 0) at (set_axis view.shape view.strides axis
      (record { counts = v.valid.same_count; there = there }) backwards (λ i j below also same. omega arith))

  -- the last coordinate has a place
  pub inverted_start_within : IsPlace (inverted_start axis view)
  inverted_start_within = start_within v own.sources

  pub start-inverted_of : pos (inverted_of axis view).start ≡ inverted_start axis view
  start-inverted_of = magnitude_from (inverted_start axis view) inverted_start_within.0

  -- it is a view of the same data, whose indices lie where their sources do
  pub Descends-inverted_of : Descends (invert_source axis view.shape) view (inverted_of axis view)
  Descends-inverted_of = Descends-own_sources v own start-inverted_of

  -- twice backwards it is the view, along any stride that is one (2^63 is none)
  pub inverted_twice : stride ≢ pos 9223372036854775808 → inverted_of axis (inverted_of axis view) ≡ view
  inverted_twice small =
      let opposites = opposite_stride stride in
      let in_strides : axis < length view.strides = omega (arith, there, v.valid.same_count) in
      let along : get_or (set view.strides axis opposites) axis (pos 0) ≡ opposites =
      get_or-set_same view.strides axis opposites (pos 0) in_strides in
      let back : pos (inverted_of axis view).start +ℤ (pos (len - 1) *ℤ opposites) ≡ pos view.start =
      omega (arith, ints, start-inverted_of, turned (len - 1) (omega arith)) in
      let strides : set (set view.strides axis opposites) axis (opposite_stride opposites) ≡ view.strides =
      set-set view.strides axis opposites (opposite_stride opposites)
      ∙ ap (set view.strides axis) (opposite_twice stride small) ∙ set-get_or view.strides axis (pos 0) in
      rw (along, back, strides) refl
