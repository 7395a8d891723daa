-- One layout of several whose fastest axes are joined at once: with the next axis they are one too, where that goes on.
use Rattle.std.proofs.Common.{◌≡◌, ℕ, ◌+◌, ◌-◌, ◌*◌, ◌<◌, ◌≤◌, pos, ◌*ℤ◌, Bor, List, length, get_or, inl, inr, take, drop, refl, sym, ap}
use Rattle.std.proofs.Common.{subst, ◌∙◌, arith, drop-cons, zero, suc}
use Rattle.std.proofs.Math.Nat.{mul_comm}
use Rattle.std.proofs.Math.Seq.{take-length}
use Rattle.std.proofs.lemmas.Bool.{cases_lt}
use Rattle.std.proofs.lemmas.List.{length-drop, length-map, length-take-le, take_more}
use Rattle.nd_base.specs.declared.order.Order.{Order}
use Rattle.nd_base.specs.declared.order.Order.TheVariants.{RowMajor, ColumnMajor}
use Rattle.nd_base.proofs.Laws.Definitions.{all_signed, IsValidLayout, limit, low_span, magnitude, reach, signed}
use Rattle.nd_shape.specs.Merge.{IsMergedStride, MergeFits}
use Rattle.nd_shape.proofs.Laws.Merge.{steps_on_from_fit}
use Rattle.ndarray_layout.specs.declared.strided.rows.Fastest.{Fastest}
use Rattle.ndarray_layout.specs.declared.strided.rows.Row.{Row}
use Rattle.ndarray_layout.specs.JoinedInAll.{AreJoinedBy, IsJoined, NoMoreJoinBy, axis_after, joined_view, slower_than}
use Rattle.ndarray_layout.specs.Rows.{BeginsAsRow, fastest_item}
use Rattle.ndarray_layout.specs.RowsLeft.{axis_view}
use Rattle.ndarray_layout.specs.View.{View, IsView, view_of, view_places}
use Rattle.ndarray_layout.specs.private.Fastest.{EndsIn, HasPlaces, IsOneAxis, IsSlowest}
use Rattle.ndarray_layout.proofs.Fastest.{length-others}
use Rattle.ndarray_layout.proofs.JoinedAxis.{HasPlaces-joined, HasPlaces-one, IsNext, Joins, both_fit, len_fits, next_fits, same_item}
use Rattle.ndarray_layout.proofs.LongestRow.{fits, next as next_len, next_stride}
use Rattle.ndarray_layout.proofs.Laws.View.{lowest_view}

-- the next axis is the fastest of the slower ones
slower_ends : (order : Order) (n count : ℕ) (items : List ℕ) → length items ≡ n → count < n
    → EndsIn order (slower_than order count items) (slower_than order (count + 1) items) (get_or items (axis_after order n count) 0)
slower_ends RowMajor n count items many more =
    let at = n - 1 - count in
    let all : length items - count ≡ at + 1 = omega arith in
    let rest : length items - (count + 1) ≡ at = omega arith in
    record { is = rw (all, rest) (take_more items at 0 (omega arith)) }
slower_ends ColumnMajor n count items many more =
    let next : count + 1 ≡ suc count = omega arith in
    record { is = rw next (drop-cons items count 0 (omega arith)) }

-- and these are the slowest ones
are_slowest : (order : Order) (count : ℕ) (items : List ℕ) → count ≤ length items → IsSlowest order items (slower_than order count items)
are_slowest RowMajor count items few =
    let many = length-take-le (length items - count) items (omega arith) in
    record { few = omega (arith, many); is = ap (λ n. take n items) many }
are_slowest ColumnMajor count items few =
    let many = length-drop count items in
    let left : length items - length (drop count items) ≡ count = omega (arith, many, few) in
    record { few = omega (arith, many); is = ap (λ n. drop n items) left }

-- none are left out where none are joined
slower_than_none : (order : Order) (items : List ℕ) → slower_than order 0 items ≡ items
slower_than_none RowMajor items =
    let all : length items - 0 ≡ length items = omega arith in
    ap (λ n. take n items) all ∙ take-length items
slower_than_none ColumnMajor items = refl

pub none_joined : (order : Order) (ref : Bor (List ℕ)) (strides : List ℕ) (stride : ℕ) → IsJoined order ref.now strides 0 1 stride
none_joined order ref strides stride =
    let here : Fastest = record {
      len = 1;
      stride = stride;
      lens = record { ref_ptr = ref.ref_ptr; now = slower_than order 0 ref.now };
      strides = record { ref_ptr = ref.ref_ptr; now = slower_than order 0 strides };
    } in
    let has : HasPlaces order ref.now strides here =
    subst (λ lens. HasPlaces order lens strides here) (slower_than_none order ref.now)
    (subst (λ all. HasPlaces order (slower_than order 0 ref.now) all here) (slower_than_none order strides)
    (HasPlaces-one order here refl)) in
    record { is_view = has.is_view; places = has.places }

-- ---- one more axis
-- so many axes are one in a layout, and the next one is there, with its stride
pub record JoinedSoFar (order : Order) (ref : Bor (List ℕ)) (strides : List ℕ) (count len stride axis step : ℕ) : Type 0 where
  pub valid : IsValidLayout ref.now (all_signed strides)
  pub more : count < length ref.now
  pub is : IsJoined order ref.now strides count len stride
  pub at : axis ≡ axis_after order (length ref.now) count
  pub steps : step ≡ get_or strides axis 0

module _ {order : Order} {ref : Bor (List ℕ)} {strides : List ℕ} {count len stride axis step : ℕ}
    (so_far : JoinedSoFar order ref strides count len stride axis step) where
  abbrev here : Fastest
  here = record {
    len = len;
    stride = stride;
    lens = record { ref_ptr = ref.ref_ptr; now = slower_than order count ref.now };
    strides = record { ref_ptr = ref.ref_ptr; now = slower_than order count strides };
  }

  abbrev next : Fastest
  next = record {
    len = get_or ref.now axis 0;
    stride = step;
    lens = record { ref_ptr = ref.ref_ptr; now = slower_than order (count + 1) ref.now };
    strides = record { ref_ptr = ref.ref_ptr; now = slower_than order (count + 1) strides };
  }

  has : HasPlaces order ref.now strides here
  has = record {
    slower_lens = are_slowest order count ref.now (omega (arith, so_far.more));
    slower_strides = are_slowest order count strides (omega (arith, so_far.more, so_far.valid.same_count, length-map strides signed));
    is_view = so_far.is.is_view;
    places = so_far.is.places;
  }

  follows : IsNext order here next
  follows = record {
    lens = subst (λ at. EndsIn order (slower_than order count ref.now) (slower_than order (count + 1) ref.now) (get_or ref.now at 0))
        (sym so_far.at) (slower_ends order (length ref.now) count ref.now refl so_far.more);
    strides = subst (EndsIn order (slower_than order count strides) (slower_than order (count + 1) strides))
        (sym (so_far.steps ∙ ap (λ at. get_or strides at 0) so_far.at))
        (slower_ends order (length ref.now) count strides (omega (arith, so_far.valid.same_count, length-map strides signed)) so_far.more);
  }

  abbrev low : ℕ
  low = low_span ref.now (all_signed strides)

  whole : IsView (axis_view order low here)
  whole = so_far.is.is_view low (lowest_view so_far.valid)

  pub joined_fits : len ≤ limit
  joined_fits = len_fits order low here whole

  pub step_fits : 1 < get_or ref.now axis 0 → magnitude (signed step) + reach len (signed stride) ≤ limit
  step_fits long = next_fits order low here whole {next = next} follows long

  pub longer_fits : len * get_or ref.now axis 0 ≤ limit
  longer_fits = omega (arith, both_fit order low here whole {next = next} follows, mul_comm len (get_or ref.now axis 0))

  -- the axes with this one are one, where a stride serves for the coordinates of both
  pub one_more_joined : (joined : ℕ) → IsMergedStride (get_or ref.now axis 0) (signed step) len (signed stride) (signed joined)
      → IsJoined order ref.now strides (count + 1) (len * get_or ref.now axis 0) joined
  one_more_joined joined serves =
      let both : Fastest =
      record { len = len * get_or ref.now axis 0; stride = joined; lens = next.lens; strides = next.strides } in
      let joins : Joins order here next both = record {
        follows = follows;
        serves = serves;
        len = mul_comm len (get_or ref.now axis 0);
        slower_lens = refl;
        slower_strides = refl;
      } in
      let all = HasPlaces-joined has joins in
      record { is_view = all.is_view; places = all.places }

  -- one that serves goes on where the others end
  pub goes_on_from_fit : 1 < get_or ref.now axis 0 → 1 < len
      → MergeFits (get_or ref.now (axis_after order (length ref.now) count) 0)
      (signed (get_or strides (axis_after order (length ref.now) count) 0)) len (signed stride)
      → signed step ≡ pos len *ℤ signed stride
  goes_on_from_fit long more fits =
      steps_on_from_fit (get_or ref.now axis 0) (signed step) len (signed stride) long more
      (subst (λ n. MergeFits n (signed step) len (signed stride)) (sym (ap (λ at. get_or ref.now at 0) so_far.at))
      (subst (λ s. MergeFits (get_or ref.now (axis_after order (length ref.now) count) 0) (signed s) len (signed stride))
      (sym (so_far.steps ∙ ap (λ at. get_or strides at 0) so_far.at)) fits))

-- ---- joined axes as one axis, and the slower ones
pub HasPlaces-joined_axes : {order : Order} {lens strides : List ℕ} {count len stride : ℕ} (axis : Fastest) → count ≤ length lens
    → length lens ≡ length strides → IsOneAxis order lens strides count len stride axis → IsJoined order lens strides count len stride
    → HasPlaces order lens strides axis
HasPlaces-joined_axes {order} {lens} {strides} {count} {len} {stride} axis few counts is joined =
    let same : (start : ℕ) → axis_view order start axis ≡ joined_view order start lens strides count len stride =
    λ start. rw (is.same_len, is.same_stride, is.slower_lens, is.slower_strides) refl in
    record {
      slower_lens = subst (IsSlowest order lens) (sym is.slower_lens) (are_slowest order count lens few);
      slower_strides = subst (IsSlowest order strides) (sym is.slower_strides)
          (are_slowest order count strides (omega (arith, few, counts)));
      is_view = λ start v. subst IsView (sym (same start)) (joined.is_view start v);
      places = λ start v. ap (view_places order) (same start) ∙ joined.places start v;
    }

-- ---- no longer rows begin all layouts
-- an axis that moves slower than n others
some_slower : (order : Order) (count : ℕ) (lens : List ℕ) {others : List ℕ} {len : ℕ}
    → EndsIn order (slower_than order count lens) others len → count < length lens
some_slower RowMajor count lens e =
    omega (arith, length-others e, length-take-le (length lens - count) lens (omega arith))
some_slower ColumnMajor count lens e = omega (arith, length-others e, length-drop count lens)

-- a row of this length begins a layout, where that starts somewhere
pub record BeginsLayout (order : Order) (lens strides : List ℕ) (len : ℕ) : Type 0 where
  pub start : ℕ
  pub row : Row
  pub is_view : IsView (view_of start lens strides)
  pub begins : BeginsAsRow (view_places order (view_of start lens strides)) row
  pub long : row.len ≡ len

pub BeginsLayout-of_view : (order : Order) (start : ℕ) (lens strides : List ℕ) {view : View} (row : Row) {len : ℕ}
    → view_of start lens strides ≡ view → IsView (view_of start lens strides) → BeginsAsRow (view_places order view) row
    → row.len ≡ len → BeginsLayout order lens strides len
BeginsLayout-of_view order start lens strides row here v begins long = record {
  start = start;
  row = row;
  is_view = v;
  begins = subst (λ view. BeginsAsRow (view_places order view) row) (sym here) begins;
  long = long;
}

-- one that is longer than joined axes has the next axis go on there
module _ {order : Order} (ref : Bor (List ℕ)) {strides : List ℕ} {count len stride n : ℕ}
    (joined : IsJoined order ref.now strides count len stride) (layout : BeginsLayout order ref.now strides n) (more : len < n) where
  abbrev axis : Fastest
  axis = record {
    len = len;
    stride = stride;
    lens = record { ref_ptr = ref.ref_ptr; now = slower_than order count ref.now };
    strides = record { ref_ptr = ref.ref_ptr; now = slower_than order count strides };
  }

  v : IsView (axis_view order layout.start axis)
  v = joined.is_view layout.start layout.is_view

  begins : BeginsAsRow (view_places order (axis_view order layout.start axis)) layout.row
  begins = ap (take layout.row.len) (joined.places layout.start layout.is_view) ∙ layout.begins

  longer : axis.len < layout.row.len
  longer = omega (arith, more, layout.long)

  pub has_more : count < length ref.now
  has_more = some_slower order count ref.now (next_len order layout.start axis v layout.row begins longer)

  pub goes_on_there : MergeFits (get_or ref.now (axis_after order (length ref.now) count) 0)
      (signed (get_or strides (axis_after order (length ref.now) count) 0)) len (signed stride)
  goes_on_there =
      let n = length ref.now in
      let counts : length strides ≡ n = omega (arith, layout.is_view.valid.same_count, length-map strides signed) in
      let len_is =
      same_item (next_len order layout.start axis v layout.row begins longer) (slower_ends order n count ref.now refl has_more) in
      let stride_is =
      same_item (next_stride order layout.start axis v layout.row begins longer) (slower_ends order n count strides counts has_more) in
      subst (λ m. MergeFits m (signed (get_or strides (axis_after order n count) 0)) len (signed stride)) len_is
      (subst (λ s. MergeFits (fastest_item order axis.lens.now 1) (signed s) len (signed stride)) stride_is
      (fits order layout.start axis v layout.row begins longer))

pub longest_of_all : (order : Order) (ref : Bor (List ℕ)) (strides : ℕ → List ℕ) (joined : List ℕ) {count len n : ℕ}
    → 0 < length joined → AreJoinedBy order ref.now strides count len joined
    → NoMoreJoinBy order ref.now strides count len joined
    → ((number : ℕ) → number < length joined → BeginsLayout order ref.now (strides number) n) → n ≤ len
longest_of_all order ref strides joined {len = len} {n = n} some are none begins = elim (cases_lt len n) [
  | inl more ↦ absurd (none (has_more ref (are 0 some) (begins 0 some) more)
      (λ number here. goes_on_there ref (are number here) (begins number here) more))
  | inr few ↦ few
]

-- ---- each of a few layouts
pub of_one : (P : ℕ → Type 0) → P 0 → (number : ℕ) → number < 1 → P number
of_one P first zero here = first
of_one P first (suc number) here = absurd (omega arith)

pub of_two : (P : ℕ → Type 0) → P 0 → P 1 → (number : ℕ) → number < 2 → P number
of_two P first second zero here = first
of_two P first second (suc number) here = of_one (λ n. P (suc n)) second number (omega arith)

pub of_three : (P : ℕ → Type 0) → P 0 → P 1 → P 2 → (number : ℕ) → number < 3 → P number
of_three P first second third zero here = first
of_three P first second third (suc number) here = of_two (λ n. P (suc n)) second third number (omega arith)
