-- Laws of the diagonal of a view: where its indices lie, and that the transpose has the same one.
use Rattle.std.proofs.Common.{◌≡◌, ◌⊎◌, ℕ, zero, suc, ◌-◌, ◌<◌, ◌≤◌, ℤ, pos, ◌+ℤ◌, ◌*ℤ◌, true, false, cond, List, []}
use Rattle.std.proofs.Common.{◌∷◌, length, fold, get_or, min, replicate, reverse, nat_lt, inl, inr, refl, sym, ap, ◌∙◌, arith}
use Rattle.std.proofs.Math.IntN.{suc_ℤ-*ℤ, zero-*ℤ}
use Rattle.std.proofs.Math.Nat.{min-le_left, min-le_right}
use Rattle.std.proofs.lemmas.Bool.{and_parts, cases_lt, le-ltb, ltb-true}
use Rattle.std.proofs.lemmas.Int.{ints}
use Rattle.std.proofs.lemmas.List.{get_or-map, get_or-replicate, length-map, length-replicate, length-reverse, reverse-reverse}
use Rattle.std.specs.Prelude.{max}
use Rattle.nd_base.proofs.Laws.Definitions.{is_index, offset_of}
use Rattle.nd_base.proofs.Laws.IsIndex.{is_index_from_coordinates}
use Rattle.nd_base.proofs.Laws.Lists.{fold-reverse, get_or-from_back}
use Rattle.ndarray_layout.specs.Descends.{Descends}
use Rattle.ndarray_layout.specs.DiagonalView.{diagonal_len, diagonal_of, diagonal_source, diagonal_stride}
use Rattle.ndarray_layout.specs.PermutedView.{reversed_of}
use Rattle.ndarray_layout.specs.View.{View, IsView}
use Rattle.ndarray_layout.proofs.Laws.Sources.{Descends-from_start, at_least}

-- ---- the least length
-- it is no greater than any
fold_least : (least : ℕ) (lens : List ℕ) → fold min least lens ≤ least
fold_least least [] = omega arith
fold_least least (len ∷ lens) = omega (arith, fold_least (min least len) lens, min-le_left least len)

fold_below : (least : ℕ) (lens : List ℕ) (axis : ℕ) → axis < length lens → fold min least lens ≤ get_or lens axis 0
fold_below least [] axis h = absurd (omega arith)
fold_below least (len ∷ lens) zero h = omega (arith, fold_least (min least len) lens, min-le_right least len)
fold_below least (len ∷ lens) (suc axis) h = fold_below (min least len) lens axis (omega arith)

pub diagonal_len_below : (shape : List ℕ) (axis : ℕ) → axis < length shape → diagonal_len shape ≤ get_or shape axis 0
diagonal_len_below [] axis h = absurd (omega arith)
diagonal_len_below (len ∷ lens) zero h = fold_least len lens
diagonal_len_below (len ∷ lens) (suc axis) h = fold_below len lens axis (omega arith)

-- and one of them
abbrev IsLength : List ℕ → ℕ → Type 0
IsLength shape len = (axis : ℕ) × (axis < length shape) × (get_or shape axis 0 ≡ len)

fold_one : (least : ℕ) (lens : List ℕ) → (fold min least lens ≡ least) ⊎ IsLength lens (fold min least lens)
fold_one least [] = inl refl
fold_one least (len ∷ lens) = elim (fold_one (min least len) lens) [
  | inl e ↦ elim (cases_lt len least) [
    | inl less ↦ inr (0, omega arith, omega (arith, e))
    | inr more ↦ inl (omega (arith, e))
  ]
  | inr found ↦ inr (suc found.0, omega (arith, found.1), found.2)
]

pub diagonal_len_one : (shape : List ℕ) → 0 < length shape → IsLength shape (diagonal_len shape)
diagonal_len_one [] h = absurd (omega arith)
diagonal_len_one (len ∷ lens) h = elim (fold_one len lens) [
  | inl e ↦ (0, omega arith, sym e)
  | inr found ↦ (suc found.0, omega (arith, found.1), found.2)
]

-- so it is the same from the back
no_more_from_back : (shape : List ℕ) → 0 < length shape → diagonal_len (reverse shape) ≤ diagonal_len shape
no_more_from_back shape some =
    let one = diagonal_len_one shape some in
    omega (
      arith,
      one.1,
      one.2,
      get_or-from_back shape one.0 0 one.1,
      diagonal_len_below (reverse shape) (length shape - 1 - one.0) (omega (arith, one.1, length-reverse shape)),
    )

pub diagonal_len-reverse : (shape : List ℕ) → diagonal_len (reverse shape) ≡ diagonal_len shape
diagonal_len-reverse [] = refl
diagonal_len-reverse (len ∷ lens) =
    let shape = len ∷ lens in
    let back = no_more_from_back (reverse shape) (omega (arith, length-reverse shape)) in
    let front = no_more_from_back shape (omega arith) in
    omega (arith, front, rw (reverse-reverse shape) at back)

-- ---- the sum of the strides
abbrev sum_of : List ℤ → ℤ
sum_of strides = fold ◌+ℤ◌ (pos 0) strides

sum_from_first : (first : ℤ) (strides : List ℤ) → fold ◌+ℤ◌ first strides ≡ first +ℤ sum_of strides
sum_from_first first [] = omega (arith, ints)
sum_from_first first (stride ∷ strides) =
    omega (arith, ints, sum_from_first (first +ℤ stride) strides, sum_from_first (pos 0 +ℤ stride) strides)

sum_more : (stride : ℤ) (strides : List ℤ) → sum_of (stride ∷ strides) ≡ stride +ℤ sum_of strides
sum_more stride strides = omega (arith, ints, sum_from_first (pos 0 +ℤ stride) strides)

add_turns : (x y z : ℤ) → x +ℤ (y +ℤ z) ≡ y +ℤ (x +ℤ z)
add_turns x y z = omega (arith, ints)

pub sum_of-reverse : (strides : List ℤ) → sum_of (reverse strides) ≡ sum_of strides
sum_of-reverse strides = fold-reverse (λ x y. x +ℤ y) sum_of sum_more add_turns strides

times_both : (i : ℕ) (y z : ℤ) → pos i *ℤ (y +ℤ z) ≡ (pos i *ℤ y) +ℤ (pos i *ℤ z)
times_both zero y z = omega (arith, ints, zero-*ℤ (y +ℤ z), zero-*ℤ y, zero-*ℤ z)
times_both (suc i) y z =
    omega (arith, ints, suc_ℤ-*ℤ (pos i) (y +ℤ z), suc_ℤ-*ℤ (pos i) y, suc_ℤ-*ℤ (pos i) z, times_both i y z)

offset_of-same : (strides : List ℤ) (i : ℕ) → offset_of strides (replicate (length strides) i) ≡ pos i *ℤ sum_of strides
offset_of-same [] i = omega (arith, ints)
offset_of-same (stride ∷ strides) i =
    ap (λ z. (pos i *ℤ stride) +ℤ z) (offset_of-same strides i)
    ∙ sym (ap (λ z. pos i *ℤ z) (sum_more stride strides) ∙ times_both i stride (sum_of strides))

-- ---- the diagonal
-- the transpose has the same diagonal
pub diagonal_of-reversed_of : (view : View) → diagonal_of (reversed_of view) ≡ diagonal_of view
diagonal_of-reversed_of view =
    ap (λ len. record { start = view.start; shape = len ∷ []; strides = diagonal_stride len (reverse view.strides) ∷ [] })
    (diagonal_len-reverse view.shape)
    ∙ ap (λ sum. record {
      start = view.start;
      shape = diagonal_len view.shape ∷ [];
      strides = cond (nat_lt (diagonal_len view.shape) 2) (pos 0) sum ∷ [];
    }) (sum_of-reverse view.strides)

module _ {view : View} (v : IsView view) where
  abbrev n : ℕ
  n = length view.shape

  abbrev len : ℕ
  len = diagonal_len view.shape

  abbrev strides : List ℤ
  strides = diagonal_stride len view.strides ∷ []

  -- an index of the diagonal has one coordinate
  one : (least : ℕ) (index : List ℕ) → is_index (at_least least (len ∷ [])) index ≡ true
      → (get_or index 0 0 < max least len) × (index ≡ get_or index 0 0 ∷ [])
  one least [] here = absurd (cc)
  one least (i ∷ []) here = (ltb-true i (max least len) (and_parts (nat_lt i (max least len)) true here).0, refl)
  one least (i ∷ j ∷ index) here = let more = (and_parts (nat_lt i (max least len)) false here).1 in absurd (cc)

  within : (least : ℕ) (index : List ℕ) → least ≤ 1 → is_index (at_least least (len ∷ [])) index ≡ true
      → is_index (at_least least view.shape) (diagonal_source n index) ≡ true
  within least index few here =
      let i = get_or index 0 0 in
      let count = length-map view.shape (max least) in
      let below = (one least index here).0 in
      is_index_from_coordinates (at_least least view.shape) (replicate n i) (length-replicate {A = ℕ} n i ∙ sym count) (λ axis h.
      omega (
        arith,
        count,
        get_or-replicate n axis i 0 (omega (arith, count)),
        get_or-map (max least) view.shape axis 0 0 (omega (arith, count)),
        diagonal_len_below view.shape axis (omega (arith, count)),
      ))

  offset : (index : List ℕ) → is_index (at_least 1 (len ∷ [])) index ≡ true
      → offset_of view.strides (diagonal_source n index) ≡ pos 0 +ℤ offset_of strides index
  offset index here =
      let i = get_or index 0 0 in
      let below = (one 1 index here).0 in
      let whole : offset_of view.strides (replicate n i) ≡ pos i *ℤ sum_of view.strides =
      ap (λ m. offset_of view.strides (replicate m i)) v.valid.same_count ∙ offset_of-same view.strides i in
      let along : pos i *ℤ sum_of view.strides ≡ pos i *ℤ diagonal_stride len view.strides = elim (cases_lt len 2) [
        | inl few ↦
            let first : i ≡ 0 = omega arith in
            rw (first, zero-*ℤ (sum_of view.strides), zero-*ℤ (diagonal_stride len view.strides)) refl
        | inr more ↦ ap (λ small. pos i *ℤ cond small (pos 0) (sum_of view.strides)) (sym (le-ltb len 2 more))
      ] in
      omega (arith, ints, whole, along, ap (offset_of strides) (one 1 index here).1)

  same_coordinate : (i j : ℕ) → i < max 1 len → j < max 1 len → replicate n i ≡ replicate n j → i ≡ j
  same_coordinate i j here there same = of view.shape here there same
    where
      of : (shape : List ℕ) → i < max 1 (diagonal_len shape) → j < max 1 (diagonal_len shape)
          → replicate (length shape) i ≡ replicate (length shape) j → i ≡ j
      of [] here there same = omega arith
      of (size ∷ shape) here there same = cc

  -- the diagonal is a view of the same data, whose indices lie where those that they stand for do, and no two of its indices alias
  -- where none of the view do
  pub Descends-diagonal_of : Descends (diagonal_source n) view (diagonal_of view)
  Descends-diagonal_of = Descends-from_start v (record {
    sources = record { counts = refl; within = within; offset = offset };
    apart = λ index other here there same.
        let first = one 1 index here in
        let second = one 1 other there in
        first.1 ∙ ap (λ i. i ∷ []) (same_coordinate (get_or index 0 0) (get_or other 0 0) first.0 second.0 same) ∙ sym second.1;
  })
