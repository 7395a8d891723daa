-- Views with some of their axes backwards, those of a negative stride in a list: they have the same places, and how they are made
-- axis by axis.
use Rattle.std.proofs.Common.{◌≡◌, ◌⊎◌, ℕ, zero, suc, ◌+◌, ◌-◌, ◌<◌, ◌≤◌, ℤ, pos, negsuc, neg_ℤ, ◌+ℤ◌, ◌*ℤ◌, ◌≤ℤ◌, List, [], ◌∷◌, length}
use Rattle.std.proofs.Common.{get_or, set, take, refl, sym, ap, ◌∙◌, inl, inr, arith}
use Rattle.std.specs.Ordering.{int_eq}
use Rattle.std.proofs.lemmas.Bool.{cases_Bool, cond-false, cond-true}
use Rattle.std.proofs.lemmas.Bool.Decides.{Decides-int_eq}
use Rattle.std.proofs.Math.ListN.{get_or-map}
use Rattle.std.proofs.lemmas.Int.{ints}
use Rattle.std.proofs.lemmas.List.{map-set}
use Rattle.std.proofs.lemmas.List.Elements.{All-cons, All-head, All-nil, All-tail}
use Rattle.std.specs.List.{All}
use Rattle.nd_base.proofs.Laws.Definitions.{all_signed, limit, reach, signed, span}
use Rattle.nd_base.proofs.Laws.NonzeroSize.{length_le_nonzero_size}
use Rattle.nd_base.proofs.Laws.Signed.{magnitude_from}
use Rattle.nd_base.proofs.Laws.Times.{times_sum}
use Rattle.ndarray_layout.specs.Descends.{Descends}
use Rattle.ndarray_layout.specs.Nearest.{turned_offset, turned_of, turned_source, turned_stride, turned_strides, where_negative}
use Rattle.ndarray_layout.specs.View.{IsPlace, IsView, View, view_of}
use Rattle.ndarray_layout.proofs.AxisByAxis.{AreCoordinatesApart, AxisHasSources, along-own, first_coordinates, same_axes}
use Rattle.ndarray_layout.proofs.Laws.InvertedView.{none_after_first, times_negative}
use Rattle.ndarray_layout.proofs.Laws.Sources.{Descends-own_sources, HasOwnSources, start_within}

-- ---- the opposite stride
pub turned_cases : (stride : ℤ)
    → ((stride ≡ negsuc 9223372036854775807) × (turned_stride stride ≡ pos 9223372036854775807)) ⊎ (turned_stride stride ≡ neg_ℤ stride)
turned_cases stride = elim (cases_Bool (int_eq stride (negsuc 9223372036854775807))) [
  | inl least ↦ inl (
    (Decides-int_eq stride (negsuc 9223372036854775807)).0 least,
    cond-true {A = ℤ} (int_eq stride (negsuc 9223372036854775807)) (pos 9223372036854775807) (neg_ℤ stride) least,
  )
  | inr other ↦
      inr (cond-false {A = ℤ} (int_eq stride (negsuc 9223372036854775807)) (pos 9223372036854775807) (neg_ℤ stride) other)
]

-- along it each coordinate lies as far on the other side
times_turned : (len i : ℕ) (stride : ℤ) → reach len stride ≤ limit → i ≤ len - 1
    → (pos i *ℤ turned_stride stride) +ℤ (pos i *ℤ stride) ≡ pos 0
times_turned len i stride fits h = elim (turned_cases stride) [
  | inl least ↦
      let first : i ≡ 0 = omega (arith, none_after_first len least.0 fits) in
      rw (first, least.1, least.0) (omega (arith, ints))
  | inr negative ↦ ap (λ other. (pos i *ℤ other) +ℤ (pos i *ℤ stride)) negative ∙ times_negative i stride
]

-- ---- one axis
axis_turned : (sign : ℤ) (len : ℕ) (stride : ℤ) → reach len stride ≤ limit
    → AxisHasSources (λ i. where_negative sign (len - 1 - i) i) len stride (where_negative sign (pos (len - 1) *ℤ stride) (pos 0)) len
    (where_negative sign (turned_stride stride) stride)
axis_turned (pos n) len stride fits = first_coordinates len len stride (omega arith)
axis_turned (negsuc n) len stride fits = record {
  within = λ least i few below. omega arith;
  offset = λ i below.
      let back = len - 1 - i in
      let all : len - 1 ≡ back + i = omega arith in
      omega (arith, ints, ap (λ n. pos n *ℤ stride) all, times_sum back i stride, times_turned len i stride fits (omega arith));
}

turned_apart : (sign : ℤ) (len : ℕ) → AreCoordinatesApart (λ i. where_negative sign (len - 1 - i) i) len
turned_apart (pos n) len i j below also same = same
turned_apart (negsuc n) len i j below also same = omega arith

-- ---- all axes
pub own_turned : (signs : List ℤ) (shape : List ℕ) (strides : List ℤ) → length shape ≡ length strides → span shape strides ≤ limit
    → HasOwnSources (turned_source signs shape) shape strides (turned_offset signs shape strides) shape (turned_strides signs strides)
own_turned [] shape strides counts fits = same_axes counts
own_turned (sign ∷ signs) [] [] counts fits = same_axes counts
own_turned (sign ∷ signs) [] (stride ∷ strides) counts fits = absurd (omega arith)
own_turned (sign ∷ signs) (len ∷ shape) [] counts fits = absurd (omega arith)
own_turned (sign ∷ signs) (len ∷ shape) (stride ∷ strides) counts fits =
    along-own (axis_turned sign len stride (omega (arith, fits))) (turned_apart sign len)
    (own_turned signs shape strides (omega arith) (omega (arith, fits))) refl (λ i index. refl)

module _ (signs : List ℤ) (view : View) (v : IsView view) where
  own : HasOwnSources (turned_source signs view.shape) view.shape view.strides (turned_offset signs view.shape view.strides) view.shape
      (turned_strides signs view.strides)
  own = own_turned signs view.shape view.strides v.valid.same_count v.valid.span_fits

  pub turned_start_within : IsPlace (pos view.start +ℤ turned_offset signs view.shape view.strides)
  turned_start_within = start_within v own.sources

  pub start-turned_of : pos (turned_of signs view).start ≡ pos view.start +ℤ turned_offset signs view.shape view.strides
  start-turned_of = magnitude_from (pos view.start +ℤ turned_offset signs view.shape view.strides) turned_start_within.0

  pub Descends-turned_of : Descends (turned_source signs view.shape) view (turned_of signs view)
  Descends-turned_of = Descends-own_sources v own start-turned_of

-- ---- one axis after the other
strides_next : (signs strides : List ℤ) (axis : ℕ) → axis < length signs → axis < length strides
    → turned_strides (take (suc axis) signs) strides
    ≡ set (turned_strides (take axis signs) strides) axis
    (where_negative (get_or signs axis (pos 0)) (turned_stride (get_or strides axis (pos 0))) (get_or strides axis (pos 0)))
strides_next [] strides axis h g = absurd (omega arith)
strides_next (sign ∷ signs) [] axis h g = absurd (omega arith)
strides_next (sign ∷ signs) (stride ∷ strides) zero h g = refl
strides_next (sign ∷ signs) (stride ∷ strides) (suc axis) h g =
    ap (λ rest. where_negative sign (turned_stride stride) stride ∷ rest)
    (strides_next signs strides axis (omega arith) (omega arith))

pub strides_one_more : (signs strides : List ℤ) (axis : ℕ) → axis < length signs → axis < length strides
    → turned_strides (take (axis + 1) signs) strides
    ≡ set (turned_strides (take axis signs) strides) axis
    (where_negative (get_or signs axis (pos 0)) (turned_stride (get_or strides axis (pos 0))) (get_or strides axis (pos 0)))
strides_one_more signs strides axis h g =
    let next : axis + 1 ≡ suc axis = omega arith in
    ap (λ count. turned_strides (take count signs) strides) next ∙ strides_next signs strides axis h g

-- an axis stands as it did until then
pub stride_so_far : (signs strides : List ℤ) (axis : ℕ)
    → get_or (turned_strides (take axis signs) strides) axis (pos 0) ≡ get_or strides axis (pos 0)
stride_so_far [] strides zero = refl
stride_so_far [] strides (suc axis) = refl
stride_so_far (sign ∷ signs) strides zero = refl
stride_so_far (sign ∷ signs) [] (suc axis) = refl
stride_so_far (sign ∷ signs) (stride ∷ strides) (suc axis) = stride_so_far signs strides axis

offset_next : (signs : List ℤ) (shape : List ℕ) (strides : List ℤ) (axis : ℕ) → axis < length signs → axis < length shape
    → axis < length strides → turned_offset (take (suc axis) signs) shape strides
    ≡ turned_offset (take axis signs) shape strides
    +ℤ where_negative (get_or signs axis (pos 0)) (pos (get_or shape axis 0 - 1) *ℤ get_or strides axis (pos 0)) (pos 0)
offset_next [] shape strides axis h g f = absurd (omega arith)
offset_next (sign ∷ signs) [] strides axis h g f = absurd (omega arith)
offset_next (sign ∷ signs) (len ∷ shape) [] axis h g f = absurd (omega arith)
offset_next (sign ∷ signs) (len ∷ shape) (stride ∷ strides) zero h g f = omega (arith, ints)
offset_next (sign ∷ signs) (len ∷ shape) (stride ∷ strides) (suc axis) h g f =
    omega (arith, ints, offset_next signs shape strides axis (omega arith) (omega arith) (omega arith))

pub offset_one_more : (signs : List ℤ) (shape : List ℕ) (strides : List ℤ) (axis : ℕ) → axis < length signs → axis < length shape
    → axis < length strides → turned_offset (take (axis + 1) signs) shape strides
    ≡ turned_offset (take axis signs) shape strides
    +ℤ where_negative (get_or signs axis (pos 0)) (pos (get_or shape axis 0 - 1) *ℤ get_or strides axis (pos 0)) (pos 0)
offset_one_more signs shape strides axis h g f =
    let next : axis + 1 ≡ suc axis = omega arith in
    ap (λ count. turned_offset (take count signs) shape strides) next ∙ offset_next signs shape strides axis h g f

pub length-turned_strides : (signs strides : List ℤ) → length (turned_strides signs strides) ≡ length strides
length-turned_strides [] strides = refl
length-turned_strides (sign ∷ signs) [] = refl
length-turned_strides (sign ∷ signs) (stride ∷ strides) = ap suc (length-turned_strides signs strides)

-- what is known where the axes before one are turned
pub record TurnedSoFar (first : ℕ) (lens strides : List ℕ) (signs : List ℤ) (start axis : ℕ) (now : List ℕ) : Type 0 where
  pub view : IsView (view_of first lens strides)
  pub counts : length signs ≡ length lens
  pub below : axis < length lens
  pub begins : pos start ≡ pos first +ℤ turned_offset (take axis signs) lens (all_signed strides)
  pub turned : all_signed now ≡ turned_strides (take axis signs) (all_signed strides)

module _ {first : ℕ} {lens strides : List ℕ} {signs : List ℤ} {start axis : ℕ} {now : List ℕ}
    (so_far : TurnedSoFar first lens strides signs start axis now) where
  pub stride_now : signed (get_or now axis 0) ≡ get_or (all_signed strides) axis (pos 0)
  stride_now =
      sym (get_or-map signed now axis 0)
      ∙ ap (λ all. get_or all axis (pos 0)) so_far.turned
      ∙ stride_so_far signs (all_signed strides) axis

  pub start_small : start ≤ limit
  start_small = omega (arith, ints, so_far.begins, (turned_start_within (take axis signs) (view_of first lens strides) so_far.view).1)

  pub len_small : get_or lens axis 0 < 9223372036854775808
  len_small = omega (arith, length_le_nonzero_size lens axis, so_far.view.valid.size_fits)

  -- and one more, by its sign
  module _ {sign : ℤ} (is : sign ≡ get_or signs axis (pos 0)) where
    pub next_start : pos start +ℤ where_negative sign (pos (get_or lens axis 0 - 1) *ℤ signed (get_or now axis 0)) (pos 0)
        ≡ pos first +ℤ turned_offset (take (axis + 1) signs) lens (all_signed strides)
    next_start =
        let few : axis < length signs = omega (arith, so_far.counts, so_far.below) in
        let there : axis < length (all_signed strides) = omega (arith, so_far.below, so_far.view.valid.same_count) in
        rw (is, stride_now)
        (omega (arith, ints, so_far.begins, offset_one_more signs lens (all_signed strides) axis few so_far.below there))

    pub next_within : IsPlace (pos start +ℤ where_negative sign (pos (get_or lens axis 0 - 1) *ℤ signed (get_or now axis 0)) (pos 0))
    next_within = rw next_start (turned_start_within (take (axis + 1) signs) (view_of first lens strides) so_far.view)

    pub next_strides : (stride : ℕ)
        → signed stride ≡ where_negative sign (turned_stride (signed (get_or now axis 0))) (signed (get_or now axis 0))
        → all_signed (set now axis stride) ≡ turned_strides (take (axis + 1) signs) (all_signed strides)
    next_strides stride turned =
        let few : axis < length signs = omega (arith, so_far.counts, so_far.below) in
        let there : axis < length (all_signed strides) = omega (arith, so_far.below, so_far.view.valid.same_count) in
        map-set signed now axis stride
        ∙ ap (λ all. set all axis (signed stride)) so_far.turned
        ∙ ap (set (turned_strides (take axis signs) (all_signed strides)) axis) (rw (is, stride_now) at turned)
        ∙ sym (strides_one_more signs (all_signed strides) axis few there)

-- ---- by the strides themselves
-- then none is negative
turned_forwards : (stride : ℤ) → pos 0 ≤ℤ where_negative stride (turned_stride stride) stride
turned_forwards (pos n) = omega (arith, ints)
turned_forwards (negsuc n) = elim (turned_cases (negsuc n)) [
  | inl least ↦ rw least.1 (omega (arith, ints))
  | inr negative ↦ rw negative (omega (arith, ints))
]

pub strides_forwards : (strides : List ℤ) → All (λ stride. pos 0 ≤ℤ stride) (turned_strides strides strides)
strides_forwards [] = All-nil (λ stride. pos 0 ≤ℤ stride)
strides_forwards (stride ∷ strides) =
    All-cons (λ stride. pos 0 ≤ℤ stride) (where_negative stride (turned_stride stride) stride) (turned_strides strides strides)
    (turned_forwards stride) (strides_forwards strides)

pub forwards_at : (strides : List ℤ) → All (λ stride. pos 0 ≤ℤ stride) strides → (axis : ℕ) → pos 0 ≤ℤ get_or strides axis (pos 0)
forwards_at [] forwards axis = omega (arith, ints)
forwards_at (stride ∷ strides) forwards zero = All-head (λ s. pos 0 ≤ℤ s) stride strides forwards
forwards_at (stride ∷ strides) forwards (suc axis) =
    forwards_at strides (All-tail (λ s. pos 0 ≤ℤ s) stride strides forwards) axis

-- and where none is, all stand as they did
pub strides_stand : (signs strides : List ℤ) → All (λ stride. pos 0 ≤ℤ stride) signs → turned_strides signs strides ≡ strides
strides_stand [] strides forwards = refl
strides_stand (pos n ∷ signs) [] forwards = refl
strides_stand (pos n ∷ signs) (stride ∷ strides) forwards =
    ap (λ rest. stride ∷ rest) (strides_stand signs strides (All-tail (λ s. pos 0 ≤ℤ s) (pos n) signs forwards))
strides_stand (negsuc n ∷ signs) strides forwards =
    let first = All-head (λ stride. pos 0 ≤ℤ stride) (negsuc n) signs forwards in
    absurd (omega (arith, ints, first))

offset_stands : (signs : List ℤ) (shape : List ℕ) (strides : List ℤ) → All (λ stride. pos 0 ≤ℤ stride) signs
    → turned_offset signs shape strides ≡ pos 0
offset_stands [] shape strides forwards = refl
offset_stands (pos n ∷ signs) [] strides forwards = refl
offset_stands (pos n ∷ signs) (len ∷ shape) [] forwards = refl
offset_stands (pos n ∷ signs) (len ∷ shape) (stride ∷ strides) forwards =
    omega (arith, ints, offset_stands signs shape strides (All-tail (λ s. pos 0 ≤ℤ s) (pos n) signs forwards))
offset_stands (negsuc n ∷ signs) shape strides forwards =
    let first = All-head (λ stride. pos 0 ≤ℤ stride) (negsuc n) signs forwards in
    absurd (omega (arith, ints, first))

pub view_stands : (signs : List ℤ) (view : View) → All (λ stride. pos 0 ≤ℤ stride) signs → turned_of signs view ≡ view
view_stands signs view forwards =
    let start : view.start + 0 ≡ view.start = omega arith in
    rw (offset_stands signs view.shape view.strides forwards, strides_stand signs view.strides forwards)
    (ap (λ start. record { start = start; shape = view.shape; strides = view.strides }) start)
