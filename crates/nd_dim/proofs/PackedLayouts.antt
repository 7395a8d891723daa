-- Every axis is packed exactly where the layout lies at each distance below its size once.
use Rattle.std.proofs.Common.{◌≡◌, ◌⊎◌, ℕ, zero, suc, ◌+◌, ◌*◌, ◌<◌, ◌≤◌, ℤ, true, false, List, [], ◌∷◌, length, get_or}
use Rattle.std.proofs.Common.{get_or-set_same, replicate, refl, sym, ap, ◌∙◌, add-one, arith, inl, inr, mul-pos}
use Rattle.std.proofs.Math.Nat.{mul-le-mul_left, mul-le-mul_right}
use Rattle.std.proofs.lemmas.Bool.{cases_lt, cases_order}
use Rattle.std.proofs.lemmas.List.{get_or-replicate, length-replicate}
use Rattle.nd_base.proofs.Laws.Definitions.{is_index, farthest_offset, is_empty, size}
use Rattle.nd_base.proofs.Laws.Coordinates.{farthest_offset-set, farthest_offset_ge_coordinate, index_or_coordinate, is_index_of_larger}
use Rattle.nd_base.proofs.Laws.Coordinates.{is_index-step_along, size-set, size_le, step_along}
use Rattle.nd_base.proofs.Laws.IsIndex.{coordinate_of_index, length_of_index}
use Rattle.nd_base.proofs.Laws.FarthestOffset.{farthest_offset-zeros}
use Rattle.nd_base.proofs.Laws.Size.{length_pos}
use Rattle.nd_dim.specs.StrideOrder.{magnitude_at}
use Rattle.nd_dim.specs.Contiguous.{lens_before}
use Rattle.nd_dim.proofs.Filled.{ReachesEach, Fills, fills_next, fills_ones}
use Rattle.nd_dim.proofs.FirstAxes.{first_axes, first_all, first_count, first_kept, first_left, first_more, first_none, first_same}
use Rattle.nd_dim.proofs.FirstAxes.{size_before}
use Rattle.nd_dim.proofs.StridePositions.{axis_at_position, longer_at_later_position, past_all, stride_position}

-- ---- lengths above 0
size_above : (lens : List ℕ) → ((axis : ℕ) → axis < length lens → 0 < get_or lens axis 0) → 0 < size lens
size_above [] h = omega arith
size_above (len ∷ lens) h = mul-pos (h 0 (omega arith)) (size_above lens (λ axis l. h (suc axis) (omega arith)))

first_above : (lens : List ℕ) (strides : List ℤ) (position : ℕ) → is_empty lens ≡ false → 0 < size (first_axes lens strides position)
first_above lens strides position some =
    size_above (first_axes lens strides position) (λ axis l.
    let in_bounds : axis < length lens = omega (arith, first_count lens strides position) in
    elim (cases_lt (stride_position strides (length lens) axis) position) [
      | inl less ↦ rw (first_kept lens strides position axis in_bounds less) (length_pos lens axis some in_bounds)
      | inr past ↦ rw (first_left lens strides position axis in_bounds past) (omega arith)
    ])

-- and no axis is longer among the first
first_no_longer : (lens : List ℕ) (strides : List ℤ) (position axis : ℕ) → is_empty lens ≡ false
    → axis < length (first_axes lens strides position) → get_or (first_axes lens strides position) axis 0 ≤ get_or lens axis 0
first_no_longer lens strides position axis some l =
    let in_bounds : axis < length lens = omega (arith, first_count lens strides position) in
    elim (cases_lt (stride_position strides (length lens) axis) position) [
      | inl less ↦ rw (first_kept lens strides position axis in_bounds less) (omega arith)
      | inr past ↦ rw (first_left lens strides position axis in_bounds past) (length_pos lens axis some in_bounds)
    ]

-- ---- from packed axes to a filled interval
-- an axis of length 1, or one whose stride is the size of the axes before it
abbrev pub IsPackedAt : List ℕ → List ℤ → ℕ → Type 0
IsPackedAt lens strides axis = (get_or lens axis 0 ≡ 1) ⊎ (magnitude_at strides axis ≡ size (lens_before lens strides axis))

fills_no_axes : (lens : List ℕ) (strides : List ℤ) → Fills (first_axes lens strides 0) strides
fills_no_axes lens strides = rw (first_none lens strides) (fills_ones (length lens) strides)

module _ (lens : List ℕ) (strides : List ℤ) (count : length lens ≡ length strides) (some : is_empty lens ≡ false) where
  fills_from_axis : (position axis : ℕ) → axis < length lens → stride_position strides (length lens) axis ≡ position
      → IsPackedAt lens strides axis
      → Fills (first_axes lens strides position) strides → Fills (first_axes lens strides (position + 1)) strides
  fills_from_axis position axis h e packed fills =
      let first = first_axes lens strides position in
      let many : length first ≡ length lens = first_count lens strides position in
      let at : (get_or lens axis 0 ≡ 1) ⊎ (magnitude_at strides axis ≡ size first) = elim packed [
        | inl one ↦ inl one
        | inr fits ↦ inr (fits ∙ size_before lens strides axis h ∙ ap (λ k. size (first_axes lens strides k)) e)
      ] in
      rw (first_more lens strides position axis h e)
      (fills_next axis (many ∙ count) (omega arith) (first_left lens strides position axis h (omega arith))
      (first_above lens strides position some) at fills)

  -- one place on, where the axis there is packed
  fills_more : (position : ℕ) → ((axis : ℕ) → axis < length lens → stride_position strides (length lens) axis ≡ position
      → IsPackedAt lens strides axis) → Fills (first_axes lens strides position) strides
      → Fills (first_axes lens strides (position + 1)) strides
  fills_more position packed fills = elim (axis_at_position (stride_position strides (length lens)) (length lens) position) [
    | inl found ↦ fills_from_axis position found.0 found.1 found.2 (packed found.0 found.1 found.2) fills
    | inr none ↦ rw (first_same lens strides position none) fills
  ]

  fills_first : (position : ℕ) → ((axis : ℕ) → axis < length lens → IsPackedAt lens strides axis)
      → Fills (first_axes lens strides position) strides
  fills_first zero packed = fills_no_axes lens strides
  fills_first (suc position) packed =
      rw (← add-one) (fills_more position (λ axis h e. packed axis h) (fills_first position packed))

  -- a layout whose axes are all packed
  pub fills_from_packed : ((axis : ℕ) → axis < length lens → IsPackedAt lens strides axis) → Fills lens strides
  fills_from_packed packed =
      let top = past_all (stride_position strides (length lens)) (length lens) in
      rw (first_all lens strides top.0 top.1) at (fills_first top.0 packed)

-- ---- from a filled interval to packed axes
-- one step along an axis lies as far as its stride
step_lies : (lens : List ℕ) (strides : List ℤ) (axis : ℕ) → length lens ≡ length strides → axis < length lens
    → farthest_offset strides (step_along lens axis) ≡ magnitude_at strides axis
step_lies lens strides axis count h =
    let zeros = replicate {A = ℕ} (length lens) 0 in
    let many : length zeros ≡ length lens = length-replicate {A = ℕ} (length lens) 0 in
    let none : get_or zeros axis 0 ≡ 0 = get_or-replicate {A = ℕ} (length lens) axis 0 0 h in
    let moved : farthest_offset strides (step_along lens axis) + get_or zeros axis 0 * magnitude_at strides axis
    ≡ farthest_offset strides zeros + 1 * magnitude_at strides axis =
    farthest_offset-set strides zeros axis 1 (many ∙ count) (omega arith) in
    let from : farthest_offset strides (step_along lens axis) + 0 * magnitude_at strides axis
    ≡ farthest_offset strides zeros + 1 * magnitude_at strides axis =
    ap (λ j. farthest_offset strides (step_along lens axis) + j * magnitude_at strides axis) (sym none) ∙ moved in
    omega (arith, from, farthest_offset-zeros strides (length lens))

-- a layout that lies at each distance once, the first of whose axes fill an interval; then comes an axis longer than 1
record IsAtAxis (lens : List ℕ) (strides : List ℤ) (position axis : ℕ) : Type 0 where
  count : length lens ≡ length strides
  some : is_empty lens ≡ false
  in_bounds : axis < length lens
  here : stride_position strides (length lens) axis ≡ position
  long : 1 < get_or lens axis 0
  reaches : ReachesEach lens strides
  fills : Fills (first_axes lens strides position) strides

module _ {lens : List ℕ} {strides : List ℤ} {position axis : ℕ} (a : IsAtAxis lens strides position axis) where
  -- a stride that the first axes reach as well leads to one place twice
  not_shorter : magnitude_at strides axis < size (first_axes lens strides position) → ⊥
  not_shorter less =
      let first = first_axes lens strides position in
      let many : length first ≡ length lens = first_count lens strides position in
      let in_bounds : axis < length lens = a.in_bounds in
      let found = a.fills.each.filled (magnitude_at strides axis) less in
      let same : found.0 ≡ step_along lens axis =
      a.reaches.distinct found.0 (step_along lens axis)
      (is_index_of_larger first lens found.0 (sym many) (λ k l. first_no_longer lens strides position k a.some l) found.1)
      (is_index-step_along lens axis a.some in_bounds a.long) (found.2 ∙ sym (step_lies lens strides axis a.count in_bounds)) in
      let coordinate = coordinate_of_index first found.0 axis found.1 (omega arith) in
      let there : axis < length (replicate {A = ℕ} (length lens) 0) = omega (arith, length-replicate {A = ℕ} (length lens) 0) in
      let one : get_or found.0 axis 0 ≡ 1 = ap (λ xs. get_or xs axis 0) same ∙ get_or-set_same (replicate (length lens) 0) axis 1 0 there in
      let only : get_or first axis 0 ≡ 1 = first_left lens strides position axis in_bounds (let e = a.here in omega arith) in
      omega arith

  -- the size of the first axes is below that of all
  first_smaller : size (first_axes lens strides position) < size lens
  first_smaller =
      let first = first_axes lens strides position in
      let more = first_axes lens strides (position + 1) in
      let many : length first ≡ length lens = first_count lens strides position in
      let in_bounds : axis < length first = let l = a.in_bounds in omega arith in
      let grown : size more ≡ size first * get_or lens axis 0 = ap size (first_more lens strides position axis a.in_bounds a.here)
      ∙ size-set first axis (get_or lens axis 0) in_bounds
      (first_left lens strides position axis a.in_bounds (let e = a.here in omega arith)) in
      let no_more : size more ≤ size lens =
      size_le more lens (sym (first_count lens strides (position + 1))) (λ k l. first_no_longer lens strides (position + 1) k a.some l) in
      let twice : size first * 2 ≤ size first * get_or lens axis 0 = mul-le-mul_left (size first) (let l = a.long in omega arith) in
      let some = first_above lens strides position a.some in
      omega arith

  -- an index that is none of the first axes lies no nearer than the stride of the next
  lies_past : (index : List ℕ) (other : ℕ) → is_index lens index ≡ true → other < length lens
      → get_or (first_axes lens strides position) other 0 ≤ get_or index other 0 → magnitude_at strides axis ≤ farthest_offset strides index
  lies_past index other h in_bounds past = elim (cases_lt (stride_position strides (length lens) other) position) [
    | inl less ↦
        let kept = first_kept lens strides position other in_bounds less in
        let coordinate = coordinate_of_index lens index other h in_bounds in
        absurd (omega arith)
    | inr later ↦
        let one = first_left lens strides position other in_bounds later in
        let count : length index ≡ length lens = length_of_index lens index h in
        let here = a.here in
        let all = a.count in
        let stride : magnitude_at strides axis ≤ magnitude_at strides other =
        longer_at_later_position strides (length lens) other axis in_bounds (omega arith) in
        let part : get_or index other 0 * magnitude_at strides other ≤ farthest_offset strides index =
        farthest_offset_ge_coordinate strides index other (omega arith) (omega arith) in
        let once : 1 * magnitude_at strides other ≤ get_or index other 0 * magnitude_at strides other =
        mul-le-mul_right (magnitude_at strides other) (omega arith) in
        omega arith
  ]

  -- a stride past their size leaves that size out
  not_longer : size (first_axes lens strides position) < magnitude_at strides axis → ⊥
  not_longer more =
      let first = first_axes lens strides position in
      let found = a.reaches.filled (size first) first_smaller in
      let many : length found.0 ≡ length first = length_of_index lens found.0 found.1 ∙ sym (first_count lens strides position) in
      elim (index_or_coordinate first found.0 many) [
        | inl within ↦ let low = a.fills.below found.0 within in let at = found.2 in omega arith
        | inr other ↦
            let far = lies_past found.0 other.0 found.1 (let l = other.1 in omega (arith, first_count lens strides position)) other.2 in
            let at = found.2 in
            omega arith
      ]

module _ (lens : List ℕ) (strides : List ℤ) (count : length lens ≡ length strides) (some : is_empty lens ≡ false) where
  -- so the axis at a place is packed, once those before it are
  packed_at_position : (position axis : ℕ) → ReachesEach lens strides → Fills (first_axes lens strides position) strides
      → axis < length lens
      → stride_position strides (length lens) axis ≡ position → IsPackedAt lens strides axis
  packed_at_position position axis reaches fills in_bounds here = elim (cases_lt 1 (get_or lens axis 0)) [
    | inr short ↦
        let above = length_pos lens axis some in_bounds in
        inl (omega arith)
    | inl long ↦
        let a : IsAtAxis lens strides position axis =
        record { count = count; some = some; in_bounds = in_bounds; here = here; long = long; reaches = reaches; fills = fills } in
        elim (cases_order (magnitude_at strides axis) (size (first_axes lens strides position))) [
          | inl same ↦ inr (same ∙ ap (λ k. size (first_axes lens strides k)) (sym here) ∙ sym (size_before lens strides axis in_bounds))
          | inr differ ↦ elim differ [
            | inl less ↦ absurd (not_shorter a less)
            | inr more ↦ absurd (not_longer a more)
          ]
        ]
  ]

  fills_reached : (position : ℕ) → ReachesEach lens strides → Fills (first_axes lens strides position) strides
  fills_reached zero reaches = fills_no_axes lens strides
  fills_reached (suc position) reaches =
      let before = fills_reached position reaches in
      rw (← add-one) (fills_more lens strides count some position (λ axis h e. packed_at_position position axis reaches before h e) before)

  -- a layout that lies at each distance below its size once has packed axes alone
  pub packed_from_reaches : ReachesEach lens strides → (axis : ℕ) → axis < length lens → IsPackedAt lens strides axis
  packed_from_reaches reaches axis in_bounds =
      let position = stride_position strides (length lens) axis in
      packed_at_position position axis reaches (fills_reached position reaches) in_bounds refl
