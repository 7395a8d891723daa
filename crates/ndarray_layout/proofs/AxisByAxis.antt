-- Layouts of another one, axis by axis: an axis that stays, one of other coordinates, one at a single coordinate, and a new one.
use Rattle.std.proofs.Common.{◌≡◌, ◌⊎◌, ℕ, ◌+◌, ◌-◌, ◌<◌, ◌≤◌, ℤ, pos, ◌+ℤ◌, ◌*ℤ◌, true, cond, List, [], ◌∷◌, length, get_or, drop}
use Rattle.std.proofs.Common.{nat_lt, inl, inr, refl, sym, ap, ◌∙◌, arith}
use Rattle.std.specs.Prelude.{max}
use Rattle.std.proofs.Math.IntN.{zero-*ℤ}
use Rattle.std.proofs.lemmas.Bool.{and_from, and_parts, cases_lt, cond-false, cond-true, le-ltb, lt-ltb, ltb-true}
use Rattle.std.proofs.lemmas.Int.{ints}
use Rattle.nd_base.proofs.Laws.Definitions.{is_index}
use Rattle.nd_base.proofs.Laws.Times.{times_sum}
use Rattle.ndarray_layout.proofs.Laws.Sources.{HasSources, HasOwnSources, at_least}

-- ---- one axis
-- each coordinate lies where one of another axis does, its source, both counted from first ones that are so far apart
pub record AxisHasSources (source : ℕ → ℕ) (old : ℕ) (old_stride : ℤ) (moved : ℤ) (new : ℕ) (stride : ℤ) : Type 0 where
  pub within : (least i : ℕ) → least ≤ 1 → i < max least new → source i < max least old
  pub offset : (i : ℕ) → i < max 1 new → pos (source i) *ℤ old_stride ≡ moved +ℤ (pos i *ℤ stride)

-- and different ones have different sources
abbrev pub AreCoordinatesApart : (ℕ → ℕ) → ℕ → Type 0
AreCoordinatesApart source new = (i j : ℕ) → i < max 1 new → j < max 1 new → source i ≡ source j → i ≡ j

-- ---- no axes, and one axis more
-- an index of one axis more
record Parts (len : ℕ) (shape index : List ℕ) : Type 0 where
  first : ℕ
  others : List ℕ
  is : index ≡ first ∷ others
  below : first < len
  within : is_index shape others ≡ true

parts : (len : ℕ) (shape index : List ℕ) → is_index (len ∷ shape) index ≡ true → Parts len shape index
parts len shape [] here = absurd (cc)
parts len shape (i ∷ index) here =
    let both = and_parts (nat_lt i len) (is_index shape index) here in
    record { first = i; others = index; is = refl; below = ltb-true i len both.0; within = both.1 }

none : (index : List ℕ) → is_index [] index ≡ true → index ≡ []
none [] here = refl
none (i ∷ index) here = absurd (cc)

pub no_axes : {source : List ℕ → List ℕ} {strides : List ℤ} → source [] ≡ [] → HasOwnSources source [] strides (pos 0) [] []
no_axes is = record {
  sources = record {
    counts = refl;
    within = λ least index few here. rw (none index here, is) refl;
    offset = λ index here. rw (none index here, is) refl;
  };
  apart = λ index other here there same. none index here ∙ sym (none other there);
}

pub along : {source rest : List ℕ → List ℕ} {at : ℕ → ℕ} {len new_len : ℕ} {stride new_stride moved whole more : ℤ} {old new : List ℕ}
    {old_strides strides : List ℤ} → AxisHasSources at len stride moved new_len new_stride
    → HasSources rest old old_strides more new strides → whole ≡ moved +ℤ more
    → ((i : ℕ) (index : List ℕ) → source (i ∷ index) ≡ at i ∷ rest index)
    → HasSources source (len ∷ old) (stride ∷ old_strides) whole (new_len ∷ new) (new_stride ∷ strides)
along {rest = rest} {at} {len} {new_len} {old = old} {new} axis others adds is = record {
  counts = omega (arith, others.counts);
  within = λ least index few here.
      let p = parts (max least new_len) (at_least least new) index here in
      rw (p.is, is p.first p.others) (and_from (nat_lt (at p.first) (max least len)) (is_index (at_least least old) (rest p.others))
      (lt-ltb (at p.first) (max least len) (axis.within least p.first few p.below)) (others.within least p.others few p.within));
  offset = λ index here.
      let p = parts (max 1 new_len) (at_least 1 new) index here in
      rw (p.is, is p.first p.others) (omega (arith, ints, adds, axis.offset p.first p.below, others.offset p.others p.within));
}

pub along-own : {source rest : List ℕ → List ℕ} {at : ℕ → ℕ} {len new_len : ℕ} {stride new_stride moved whole more : ℤ}
    {old new : List ℕ} {old_strides strides : List ℤ} → AxisHasSources at len stride moved new_len new_stride
    → AreCoordinatesApart at new_len → HasOwnSources rest old old_strides more new strides → whole ≡ moved +ℤ more
    → ((i : ℕ) (index : List ℕ) → source (i ∷ index) ≡ at i ∷ rest index)
    → HasOwnSources source (len ∷ old) (stride ∷ old_strides) whole (new_len ∷ new) (new_stride ∷ strides)
along-own {source} {rest} {at} {new_len = new_len} {new = new} axis apart others adds is = record {
  sources = along axis others.sources adds is;
  apart = λ index other here there same.
      let p = parts (max 1 new_len) (at_least 1 new) index here in
      let q = parts (max 1 new_len) (at_least 1 new) other there in
      let both : at p.first ∷ rest p.others ≡ at q.first ∷ rest q.others =
      sym (ap source p.is ∙ is p.first p.others) ∙ same ∙ ap source q.is ∙ is q.first q.others in
      let one : p.first ≡ q.first = apart p.first q.first p.below q.below (ap (λ xs. get_or xs 0 0) both) in
      let later : p.others ≡ q.others = others.apart p.others q.others p.within q.within (ap (drop 1) both) in
      p.is ∙ ap (λ i. i ∷ p.others) one ∙ ap (λ xs. q.first ∷ xs) later ∙ sym q.is;
}

-- one coordinate of an axis
pub at_coordinate : {source rest : List ℕ → List ℕ} {len i : ℕ} {stride whole more : ℤ} {old new : List ℕ} {old_strides strides : List ℤ}
    → i < len → HasOwnSources rest old old_strides more new strides → whole ≡ (pos i *ℤ stride) +ℤ more
    → ((index : List ℕ) → source index ≡ i ∷ rest index) → HasOwnSources source (len ∷ old) (stride ∷ old_strides) whole new strides
at_coordinate {source} {rest} {len} {i} {old = old} below others adds is = record {
  sources = record {
    counts = others.sources.counts;
    within = λ least index few here. rw (is index) (and_from (nat_lt i (max least len)) (is_index (at_least least old) (rest index))
        (lt-ltb i (max least len) (omega arith)) (others.sources.within least index few here));
    offset = λ index here. rw (is index) (omega (arith, ints, adds, others.sources.offset index here));
  };
  apart = λ index other here there same. others.apart index other here there (ap (drop 1) (sym (is index) ∙ same ∙ is other));
}

-- a new axis whose coordinates all lie where the first one does
pub new_axis : {source rest : List ℕ → List ℕ} {len : ℕ} {stride moved : ℤ} {old new : List ℕ} {old_strides strides : List ℤ}
    → ((i : ℕ) → i < max 1 len → pos i *ℤ stride ≡ pos 0) → HasSources rest old old_strides moved new strides
    → ((i : ℕ) (index : List ℕ) → source (i ∷ index) ≡ rest index)
    → HasSources source old old_strides moved (len ∷ new) (stride ∷ strides)
new_axis {len = len} {new = new} stays others is = record {
  counts = omega (arith, others.counts);
  within = λ least index few here.
      let p = parts (max least len) (at_least least new) index here in
      rw (p.is, is p.first p.others) (others.within least p.others few p.within);
  offset = λ index here.
      let p = parts (max 1 len) (at_least 1 new) index here in
      rw (p.is, is p.first p.others) (omega (arith, ints, stays p.first p.below, others.offset p.others p.within));
}

pub one_new_axis : {source rest : List ℕ → List ℕ} (stride : ℤ) {moved : ℤ} {old new : List ℕ} {old_strides strides : List ℤ}
    → HasOwnSources rest old old_strides moved new strides → ((i : ℕ) (index : List ℕ) → source (i ∷ index) ≡ rest index)
    → HasOwnSources source old old_strides moved (1 ∷ new) (stride ∷ strides)
one_new_axis {source} {rest} stride {new = new} others is = record {
  sources = new_axis (λ i below. let first : i ≡ 0 = omega arith in rw first (zero-*ℤ stride)) others.sources is;
  apart = λ index other here there same.
      let p = parts 1 (at_least 1 new) index here in
      let q = parts 1 (at_least 1 new) other there in
      let one : p.first ≡ q.first = omega (arith, p.below, q.below) in
      let both : rest p.others ≡ rest q.others = sym (ap source p.is ∙ is p.first p.others) ∙ same ∙ ap source q.is ∙ is q.first q.others in
      let later : p.others ≡ q.others = others.apart p.others q.others p.within q.within both in
      p.is ∙ ap (λ i. i ∷ p.others) one ∙ ap (λ xs. q.first ∷ xs) later ∙ sym q.is;
}

-- ---- which coordinates
-- the first ones, as many as there are or fewer
pub first_coordinates : (len count : ℕ) (stride : ℤ) → count ≤ len → AxisHasSources (λ i. i) len stride (pos 0) count stride
first_coordinates len count stride few =
    record { within = λ least i least_few below. omega arith; offset = λ i below. omega (arith, ints) }

-- those from one on, up to another; where there are none, from the first on
abbrev pub range_start : ℕ → ℕ → ℕ
range_start start end = cond (nat_lt start end) start 0

pub range_cases : (start end : ℕ) → ((start < end) × (range_start start end ≡ start)) ⊎ ((end ≤ start) × (range_start start end ≡ 0))
range_cases start end = elim (cases_lt start end) [
  | inl some ↦ inl (some, cond-true {A = ℕ} (nat_lt start end) start 0 (lt-ltb start end some))
  | inr none ↦ inr (none, cond-false {A = ℕ} (nat_lt start end) start 0 (le-ltb start end none))
]

pub range_of : (len start end : ℕ) (stride : ℤ) → start ≤ end → end ≤ len
    → AxisHasSources (λ i. range_start start end + i) len stride (pos (range_start start end) *ℤ stride) (end - start) stride
range_of len start end stride ordered within = record {
  within = λ least i few below. elim (range_cases start end) [
    | inl some ↦ omega (arith, some.1)
    | inr none ↦ omega (arith, none.1)
  ];
  offset = λ i below. times_sum (range_start start end) i stride;
}

-- one alone
pub lone_coordinate : (len i : ℕ) (stride : ℤ) → i < len → AxisHasSources (λ j. i) len stride (pos i *ℤ stride) 1 stride
lone_coordinate len i stride here = record {
  within = λ least j few below. omega arith;
  offset = λ j below. let first : j ≡ 0 = omega arith in rw first (omega (arith, ints, zero-*ℤ stride));
}

-- ---- all axes stay

pub same_axis : {rest : List ℕ → List ℕ} {len : ℕ} {stride moved : ℤ} {old new : List ℕ} {old_strides strides : List ℤ}
    → HasOwnSources rest old old_strides moved new strides → {source : List ℕ → List ℕ}
    → ((i : ℕ) (index : List ℕ) → source (i ∷ index) ≡ i ∷ rest index)
    → HasOwnSources source (len ∷ old) (stride ∷ old_strides) moved (len ∷ new) (stride ∷ strides)
same_axis {len = len} {stride} others is =
    along-own (first_coordinates len len stride (omega arith)) (λ i j below also same. same) others (omega (arith, ints)) is

pub same_axes : {shape : List ℕ} {strides : List ℤ} → length shape ≡ length strides
    → HasOwnSources (λ index. index) shape strides (pos 0) shape strides
same_axes counts = record {
  sources = record { counts = counts; within = λ least index few here. here; offset = λ index here. omega (arith, ints) };
  apart = λ index other here there same. same;
}
