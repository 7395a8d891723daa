-- A shape whose axes of short strides keep their lengths, while the others hold one coordinate.
use Rattle.std.proofs.Common.{◌≡◌, ◌≢◌, ℕ, ◌+◌, ◌*◌, ◌<◌, ◌≤◌, ℤ, Bool, cond, List, [], ◌∷◌, length, get_or, set, get_or-set_same}
use Rattle.std.proofs.Common.{get_or-set_other, map, replicate, refl, sym, ap, ◌∙◌, arith, inl, inr}
use Rattle.std.specs.List.{filter, slice_index}
use Rattle.std.specs.Prelude.{nat_lt}
use Rattle.std.proofs.lemmas.Bool.{cases_Bool, cases_eq, cases_lt}
use Rattle.std.proofs.lemmas.Bool.Decides.{nat_tests}
use Rattle.std.proofs.lemmas.List.{ext_get_or, get_or-replicate, length-replicate, length-set}
use Rattle.std.proofs.lemmas.List.FromFn.{fill_by_all, get_or-map-range_with_len, length-map-range_with_len}
use Rattle.nd_base.proofs.Laws.Definitions.{below, size}
use Rattle.nd_dim.specs.StrideOrder.{comes_before}
use Rattle.nd_dim.specs.Contiguous.{lens_before}
use Rattle.nd_dim.proofs.StridePositions.{stride_position, comes_before_by_position, position_differs}

-- the axes before a place keep their lengths
abbrev pub first_axes : List ℕ → List ℤ → ℕ → List ℕ
first_axes lens strides position =
    map (λ axis. cond (nat_lt (stride_position strides (length lens) axis) position) (get_or lens axis 0) 1) (below (length lens))

module _ (lens : List ℕ) (strides : List ℤ) where
  pub first_count : (position : ℕ) → length (first_axes lens strides position) ≡ length lens
  first_count position = length-map-range_with_len
      (λ axis. cond (nat_lt (stride_position strides (length lens) axis) position) (get_or lens axis 0) 1) 0 (length lens)

  first_at : (position axis : ℕ) → axis < length lens
      → get_or (first_axes lens strides position) axis 0
      ≡ cond (nat_lt (stride_position strides (length lens) axis) position) (get_or lens axis 0) 1
  first_at position axis h = get_or-map-range_with_len
      (λ axis. cond (nat_lt (stride_position strides (length lens) axis) position) (get_or lens axis 0) 1) 0 (length lens) axis axis 0 h
      (omega arith)

  pub first_kept : (position axis : ℕ) → axis < length lens → stride_position strides (length lens) axis < position
      → get_or (first_axes lens strides position) axis 0 ≡ get_or lens axis 0
  first_kept position axis h l = let at = first_at position axis h in grind (arith, nat_tests)

  pub first_left : (position axis : ℕ) → axis < length lens → position ≤ stride_position strides (length lens) axis
      → get_or (first_axes lens strides position) axis 0 ≡ 1
  first_left position axis h l = let at = first_at position axis h in grind (arith, nat_tests)

  -- no axis is before 0
  pub first_none : first_axes lens strides 0 ≡ replicate (length lens) 1
  first_none =
      ext_get_or 0 (first_axes lens strides 0) (replicate (length lens) 1)
      (first_count 0 ∙ sym (length-replicate {A = ℕ} (length lens) 1)) (λ k h.
      let in_bounds : k < length lens = omega (arith, first_count 0) in
      first_left 0 k in_bounds (omega arith) ∙ sym (get_or-replicate {A = ℕ} (length lens) k 1 0 in_bounds))

  -- and past all places every axis is
  pub first_all : (top : ℕ) → ((axis : ℕ) → axis < length lens → stride_position strides (length lens) axis < top)
      → first_axes lens strides top ≡ lens
  first_all top h =
      ext_get_or 0 (first_axes lens strides top) lens (first_count top) (λ k l.
      let in_bounds : k < length lens = omega (arith, first_count top) in
      first_kept top k in_bounds (h k in_bounds))

  same_without : (position k : ℕ) → k < length lens → stride_position strides (length lens) k ≢ position
      → get_or (first_axes lens strides (position + 1)) k 0 ≡ get_or (first_axes lens strides position) k 0
  same_without position k h ne = elim (cases_lt (stride_position strides (length lens) k) position) [
    | inl less ↦ first_kept (position + 1) k h (omega arith) ∙ sym (first_kept position k h less)
    | inr past ↦ first_left (position + 1) k h (omega arith) ∙ sym (first_left position k h past)
  ]

  -- one place on, the axis there gets its length
  pub first_more : (position axis : ℕ) → axis < length lens → stride_position strides (length lens) axis ≡ position
      → first_axes lens strides (position + 1) ≡ set (first_axes lens strides position) axis (get_or lens axis 0)
  first_more position axis h e =
      let longer = set (first_axes lens strides position) axis (get_or lens axis 0) in
      ext_get_or 0 (first_axes lens strides (position + 1)) longer
      (first_count (position + 1) ∙ sym (length-set (first_axes lens strides position) axis (get_or lens axis 0) ∙ first_count position))
      (λ k l.
      let in_bounds : k < length lens = omega (arith, first_count (position + 1)) in
      elim (cases_eq k axis) [
        | inl same ↦
            let there : axis < length (first_axes lens strides position) = omega (arith, first_count position) in
            rw same (first_kept (position + 1) axis h (omega arith)
            ∙ sym (get_or-set_same (first_axes lens strides position) axis (get_or lens axis 0) 0 there))
        | inr other ↦
            same_without position k in_bounds (λ same. other (position_differs strides (length lens) k axis in_bounds h (same ∙ sym e)))
            ∙ sym (get_or-set_other (first_axes lens strides position) axis k (get_or lens axis 0) 0 other)
      ])

  -- and without an axis there nothing changes
  pub first_same : (position : ℕ) → ((axis : ℕ) → axis < length lens → stride_position strides (length lens) axis ≢ position)
      → first_axes lens strides (position + 1) ≡ first_axes lens strides position
  first_same position h =
      ext_get_or 0 (first_axes lens strides (position + 1)) (first_axes lens strides position)
      (first_count (position + 1) ∙ sym (first_count position)) (λ k l.
      let in_bounds : k < length lens = omega (arith, first_count (position + 1)) in
      same_without position k in_bounds (h k in_bounds))

-- ---- the size of the axes before another
chosen_size : (p : ℕ → Bool) (g : ℕ → ℕ) (axes : List ℕ) → size (map g (filter p axes)) ≡ size (map (λ axis. cond (p axis) (g axis) 1) axes)
chosen_size p g [] = refl
chosen_size p g (axis ∷ axes) = elim (cases_Bool (p axis)) [
  | inl kept ↦ rw kept (ap (λ m. g axis * m) (chosen_size p g axes))
  | inr left ↦ rw left (chosen_size p g axes ∙ omega arith)
]

-- the axes that come before an axis are those before its place
pub size_before : (lens : List ℕ) (strides : List ℤ) (axis : ℕ) → axis < length lens
    → size (lens_before lens strides axis) ≡ size (first_axes lens strides (stride_position strides (length lens) axis))
size_before lens strides axis h =
    let n = length lens in
    let chosen = map (λ other. cond (comes_before strides other axis) (get_or lens other 0) 1) (below n) in
    let same : chosen ≡ first_axes lens strides (stride_position strides n axis) =
    fill_by_all (λ other. cond (nat_lt (stride_position strides n other) (stride_position strides n axis)) (get_or lens other 0) 1)
    chosen n 0
    (length-map-range_with_len (λ other. cond (comes_before strides other axis) (get_or lens other 0) 1) 0 n) (λ k l.
    get_or-map-range_with_len (λ other. cond (comes_before strides other axis) (get_or lens other 0) 1) 0 n k k 0 l (omega arith)
    ∙ ap (λ b. cond b (get_or lens k 0) 1) (comes_before_by_position strides n k axis l h)) in
    chosen_size (λ other. comes_before strides other axis) (slice_index lens) (below n) ∙ ap size same
