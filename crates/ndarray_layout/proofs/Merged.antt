-- Two axes of a layout as one: a part of the layout, where each coordinate has a place in both.
use Rattle.std.proofs.Common.{◌≡◌, ◌≢◌, ℕ, ◌+◌, ◌*◌, ◌/◌, ◌%◌, ◌<◌, ◌≤◌, ℤ, pos, ◌+ℤ◌, ◌*ℤ◌, cond, eqb, List, [], ◌∷◌, zero, suc, length}
use Rattle.std.proofs.Common.{get_or, set, true, inl, inr, sym, ap, ◌∙◌, arith, subst, pos_of_ne-zero, zero-mul}
use Rattle.std.specs.Prelude.{max}
use Rattle.std.proofs.Math.IntN.{zero-*ℤ}
use Rattle.std.proofs.Math.Nat.{div-add-mod, div-le_self, div-lt_iff_lt-mul, mod-le, mod-lt}
use Rattle.std.proofs.lemmas.Bool.{cases_eq, cond-true, cond-false, eq-eqb, ne_eqb}
use Rattle.std.proofs.lemmas.Int.{ints}
use Rattle.std.proofs.lemmas.List.{get_or-map, get_or-set_same, get_or-set_other, length-map, length-set, map-set, set_comm}
use Rattle.std.proofs.lemmas.List.{set-get_or, set-set}
use Rattle.nd_base.proofs.Laws.Coordinates.{is_index-set}
use Rattle.nd_base.proofs.Laws.Definitions.{is_index, offset_of}
use Rattle.nd_base.proofs.Laws.IsIndex.{coordinate_of_index, length_of_index}
use Rattle.nd_shape.specs.Merge.{IsMergedStride, merged_shape}
use Rattle.ndarray_layout.specs.MergedView.{merge_source}
use Rattle.ndarray_layout.proofs.Laws.Sources.{HasOwnSources, at_least}

-- ---- one coordinate for both
-- how many coordinates are left on the axis taken, where both have so many together
abbrev left_on : ℕ → ℕ
left_on both = cond (eqb both 0) 0 1

left_le : (both : ℕ) → left_on both ≤ 1
left_le both =
    elim (cases_eq both 0) [
      | inl e ↦ omega (arith, cond-true {A = ℕ} (eqb both 0) 0 1 (eq-eqb both 0 e))
      | inr e ↦ omega (arith, cond-false {A = ℕ} (eqb both 0) 0 1 (ne_eqb both 0 e))
    ]

-- a coordinate of both is one of each, and lies where they do
record IsOfBoth (least t n : ℕ) (taken_stride into_stride stride : ℤ) (j : ℕ) : Type 0 where
  quotient : j / n < max least t
  remainder : j % n < max least n
  offset : pos j *ℤ stride ≡ (pos (j / n) *ℤ taken_stride) +ℤ (pos (j % n) *ℤ into_stride)

of_both : {least : ℕ} (t n : ℕ) {taken_stride into_stride stride : ℤ} (j : ℕ) → IsMergedStride t taken_stride n into_stride stride
    → least ≤ 1 → j < max least (n * t) → IsOfBoth least t n taken_stride into_stride stride j
of_both {least} t n {taken_stride} {into_stride} {stride} j serves few below = elim (cases_eq (n * t) 0) [
  | inl none ↦
      let first : j ≡ 0 = omega arith in
      let quotient : j / n ≡ 0 = omega (arith, div-le_self j n) in
      let remainder : j % n ≡ 0 = omega (arith, mod-le j n) in
      record {
        quotient = omega arith;
        remainder = omega arith;
        offset = rw (quotient, remainder, first) (omega (arith, ints, zero-*ℤ stride, zero-*ℤ taken_stride, zero-*ℤ into_stride));
      }
  | inr some ↦
      let into : 0 < n = pos_of_ne-zero (λ e. some (ap (λ k. k * t) e ∙ zero-mul t)) in
      let within : j < t * n = omega arith in
      record {
        quotient = omega (arith, (div-lt_iff_lt-mul into).1 within);
        remainder = omega (arith, mod-lt j into);
        offset = serves j within;
      }
]

-- ---- two axes of a layout
pub record AreTwoAxes (shape : List ℕ) (take into : ℕ) : Type 0 where
  pub take_there : take < length shape
  pub into_there : into < length shape
  pub apart : take ≢ into

-- an offset changes with the stride of an axis and with the coordinate on it
offset-set : (strides : List ℤ) (index : List ℕ) (axis : ℕ) (stride : ℤ) (i : ℕ) → length strides ≡ length index → axis < length index
    → offset_of (set strides axis stride) index +ℤ (pos i *ℤ get_or strides axis (pos 0))
    ≡ offset_of strides (set index axis i) +ℤ (pos (get_or index axis 0) *ℤ stride)
offset-set [] [] axis stride i e h = absurd (omega arith)
offset-set [] (c ∷ index) axis stride i e h = absurd (omega arith)
offset-set (s ∷ strides) [] axis stride i e h = absurd (omega arith)
offset-set (s ∷ strides) (c ∷ index) zero stride i e h = omega (arith, ints)
offset-set (s ∷ strides) (c ∷ index) (suc axis) stride i e h =
    omega (arith, ints, offset-set strides index axis stride i (omega arith) (omega arith))

module _ (shape : List ℕ) (strides : List ℤ) (taken into : ℕ) (stride : ℤ) (equal : length shape ≡ length strides)
    (two : AreTwoAxes shape taken into)
    (serves : IsMergedStride (get_or shape taken 0) (get_or strides taken (pos 0)) (get_or shape into 0) (get_or strides into (pos 0))
    stride)
  where
    abbrev t : ℕ
    t = get_or shape taken 0

    abbrev n : ℕ
    n = get_or shape into 0

    merged_count : length (merged_shape taken into shape) ≡ length shape
    merged_count = length-set (set shape into (n * t)) taken (left_on (n * t)) ∙ length-set shape into (n * t)

    -- an index that is left: on the axis taken it has the first coordinate
    record IsLeft (least : ℕ) (index : List ℕ) : Type 0 where
      count : length index ≡ length shape
      none : get_or index taken 0 ≡ 0
      both : IsOfBoth least t n (get_or strides taken (pos 0)) (get_or strides into (pos 0)) stride (get_or index into 0)

    is_left : {least : ℕ} (index : List ℕ) → least ≤ 1 → is_index (at_least least (merged_shape taken into shape)) index ≡ true
        → IsLeft least index
    is_left {least} index few here =
        let lens = merged_shape taken into shape in
        let coordinate = λ (axis : ℕ) (h : axis < length shape).
        subst (λ len. get_or index axis 0 < len) (get_or-map (max least) lens axis 0 0 (omega (arith, merged_count)))
        (coordinate_of_index (at_least least lens) index axis here (omega (arith, length-map lens (max least), merged_count))) in
        let on_taken : get_or lens taken 0 ≡ left_on (n * t) =
        get_or-set_same (set shape into (n * t)) taken (left_on (n * t)) 0
        (omega (arith, length-set shape into (n * t), two.take_there)) in
        let on_into : get_or lens into 0 ≡ n * t =
        get_or-set_other (set shape into (n * t)) taken into (left_on (n * t)) 0 (λ e. two.apart (sym e))
        ∙ get_or-set_same shape into (n * t) 0 two.into_there in
        record {
          count = length_of_index (at_least least lens) index here ∙ length-map lens (max least) ∙ merged_count;
          none = omega (arith, coordinate taken two.take_there, on_taken, left_le (n * t));
          both = of_both t n (get_or index into 0) serves few (rw on_into at (coordinate into two.into_there));
        }

    within : (least : ℕ) (index : List ℕ) → least ≤ 1 → is_index (at_least least (merged_shape taken into shape)) index ≡ true
        → is_index (at_least least shape) (merge_source taken into shape index) ≡ true
    within least index few here =
        let lens = at_least least shape in
        let left = is_left index few here in
        let q = get_or index into 0 / n in
        let r = get_or index into 0 % n in
        let m = max least (n * t) in
        let u = max least (left_on (n * t)) in
        let merged : at_least least (merged_shape taken into shape) ≡ set (set lens into m) taken u =
        map-set (max least) (set shape into (n * t)) taken (left_on (n * t))
        ∙ ap (λ xs. set xs taken u) (map-set (max least) shape into (n * t)) in
        let count = length-map shape (max least) in
        let on_taken = is_index-set (set (set lens into m) taken u) index (rw merged at here) taken (max least t) q
        (omega (arith, length-set (set lens into m) taken u, length-set lens into m, count, two.take_there)) left.both.quotient in
        let middle : set (set (set lens into m) taken u) taken (max least t) ≡ set lens into m =
        set-set (set lens into m) taken u (max least t)
        ∙ ap (set (set lens into m) taken) (sym (get_or-set_other lens into taken m 0 two.apart
        ∙ get_or-map (max least) shape taken 0 0 two.take_there)) ∙ set-get_or (set lens into m) taken 0 in
        let on_into = is_index-set (set lens into m) (set index taken q) (rw middle at on_taken) into (max least n) r
        (omega (arith, length-set lens into m, count, two.into_there)) left.both.remainder in
        let whole : set (set lens into m) into (max least n) ≡ lens =
        set-set lens into m (max least n) ∙ ap (set lens into) (sym (get_or-map (max least) shape into 0 0 two.into_there))
        ∙ set-get_or lens into 0 in
        rw whole at on_into

    offset : (index : List ℕ) → is_index (at_least 1 (merged_shape taken into shape)) index ≡ true
        → offset_of strides (merge_source taken into shape index) ≡ pos 0 +ℤ offset_of (set strides into stride) index
    offset index here =
        let left = is_left index (omega arith) here in
        let j = get_or index into 0 in
        let q = j / n in
        let r = j % n in
        let count : length strides ≡ length index = omega (arith, left.count, equal) in
        let on_into = offset-set strides index into stride r count (omega (arith, left.count, two.into_there)) in
        let moved = offset-set strides (set index into r) taken (get_or strides taken (pos 0)) q (count ∙ sym (length-set index into r))
        (omega (arith, length-set index into r, left.count, two.take_there)) in
        let first : get_or (set index into r) taken 0 ≡ 0 = get_or-set_other index into taken r 0 two.apart ∙ left.none in
        let on_taken = rw (set-get_or strides taken (pos 0), first, zero-*ℤ (get_or strides taken (pos 0))) at moved in
        let turned = ap (offset_of strides) (set_comm index taken into q r two.apart) in
        omega (arith, ints, on_into, on_taken, turned, left.both.offset)

    -- its source says what it was
    back : (index : List ℕ) → is_index (at_least 1 (merged_shape taken into shape)) index ≡ true
        → let at = merge_source taken into shape index in
        set (set at into (n * get_or at taken 0 + get_or at into 0)) taken 0 ≡ index
    back index here =
        let left = is_left index (omega arith) here in
        let j = get_or index into 0 in
        let middle = set index taken (j / n) in
        let on_taken : get_or (set middle into (j % n)) taken 0 ≡ j / n =
        get_or-set_other middle into taken (j % n) 0 two.apart
        ∙ get_or-set_same index taken (j / n) 0 (omega (arith, left.count, two.take_there)) in
        let on_into = get_or-set_same middle into (j % n) 0 (omega (arith, length-set index taken (j / n), left.count, two.into_there)) in
        rw (on_taken, on_into, div-add-mod j n)
        (ap (λ xs. set xs taken 0) (set-set middle into (j % n) j
        ∙ ap (set middle into) (sym (get_or-set_other index taken into (j / n) 0 (λ e. two.apart (sym e)))) ∙ set-get_or middle into 0)
        ∙ set-set index taken (j / n) 0 ∙ ap (set index taken) (sym left.none) ∙ set-get_or index taken 0)

    pub merged_sources : HasOwnSources (merge_source taken into shape) shape strides (pos 0) (merged_shape taken into shape)
        (set strides into stride)
    merged_sources = record {
      sources = record {
        counts = merged_count ∙ equal ∙ sym (length-set strides into stride);
        within = within;
        offset = offset;
      };
      apart = λ index other here there same.
          sym (back index here) ∙ ap (λ at. set (set at into (n * get_or at taken 0 + get_or at into 0)) taken 0) same ∙ back other there;
    }
