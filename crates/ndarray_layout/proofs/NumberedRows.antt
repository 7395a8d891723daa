-- The rows of a view by their numbers: those that an iterator with the view has left.
use Rattle.std.proofs.Common.{◌≡◌, ℕ, ◌+◌, ◌-◌, ◌*◌, ◌<◌, ◌≤◌, ℤ, pos, cond, inl, inr, List, [], ◌∷◌, ◌++◌, drop, get_or}
use Rattle.std.proofs.Common.{length, map, min, take, nat_eq, refl, sym, ap, subst, ◌∙◌, arith, length-append, length-drop, add-one}
use Rattle.std.specs.List.{All}
use Rattle.std.proofs.Math.Nat.{min-eq_left, min-eq_right, min-le_left, min-le_right, mul-le-mul_right}
use Rattle.std.proofs.lemmas.Bool.{cases_lt}
use Rattle.std.proofs.lemmas.List.{drop-drop, drop-map, drop-take, get_or-drop, get_or-map, length-map, length-take-le, map-append}
use Rattle.std.proofs.lemmas.List.{drop_min, take-map, take-take, take_more}
use Rattle.std.proofs.lemmas.List.Elements.{All-cons, All-nil}
use Rattle.nd_base.specs.declared.order.Order.{Order}
use Rattle.nd_base.proofs.Laws.Definitions.{indices_in, limit, magnitude, place, signed, size}
use Rattle.nd_base.proofs.Laws.Indices.{get_or-indices_in, length-indices_in}
use Rattle.ndarray_layout.specs.declared.strided.rows.Fastest.{Fastest}
use Rattle.ndarray_layout.specs.declared.strided.rows.Row.{Row}
use Rattle.ndarray_layout.specs.NumberedRows.{AreRowsBetween, numbered_place, rows_between, slowest, slowest_view}
use Rattle.ndarray_layout.specs.Rows.{row_places, rows_places, view_rows}
use Rattle.ndarray_layout.specs.RowsLeft.{axis_view, moved_to}
use Rattle.ndarray_layout.specs.View.{View, IsView, view_of, view_places}
use Rattle.ndarray_layout.specs.private.Fastest.{IsSlowest}
use Rattle.ndarray_layout.proofs.NextRow.{next_place}
use Rattle.ndarray_layout.proofs.RowsLeft.{IsView-slower, few_or_none, first_rows, rows_fit}
use Rattle.ndarray_layout.proofs.SlowestAxes.{slowest-map}
use Rattle.ndarray_layout.proofs.Laws.Rows.{length-row_places}
use Rattle.ndarray_layout.proofs.Laws.View.{length-view_places}

-- ---- rows of one length and one stride
pub places_of_rows : (row : Row) (starts : List ℤ) → length (rows_places (map (moved_to row) starts)) ≡ length starts * row.len
places_of_rows row [] = omega arith
places_of_rows row (start ∷ starts) =
    omega (
      arith,
      length-append (row_places (magnitude start) row.stride row.len) (rows_places (map (moved_to row) starts)),
      length-row_places (magnitude start) row.stride row.len,
      places_of_rows row starts,
    )

pub rows_alike : (row : Row) (alike : Row → Type 0) → ((place : ℤ) → alike (moved_to row place)) → (starts : List ℤ)
    → All alike (map (moved_to row) starts)
rows_alike row alike each [] = All-nil alike
rows_alike row alike each (start ∷ starts) =
    All-cons alike (moved_to row start) (map (moved_to row) starts) (each start) (rows_alike row alike each starts)

-- ---- the lesser of two
pub lesser : (a b : ℕ) {r : ℕ} → r ≡ min a b → (r ≤ a) × (r ≤ b) × (r < a → r ≡ b)
lesser a b e = (
  omega (arith, e, min-le_left a b),
  omega (arith, e, min-le_right a b),
  λ less. elim (cases_lt b a) [
    | inl below ↦ e ∙ min-eq_right (omega (arith, below))
    | inr above ↦ absurd (omega (arith, less, e, min-eq_left above))
  ],
)

-- ---- of the rows of a list of places those between two numbers
module _ (row : Row) (starts : List ℤ) (begun end : ℕ) where
  -- without the first ones
  pub between_drop : (count : ℕ) → begun + count ≤ end → map (moved_to row) (take (end - (begun + count)) (drop (begun + count) starts))
      ≡ drop count (map (moved_to row) (take (end - begun) (drop begun starts)))
  between_drop count few =
      let all : end - begun ≡ count + (end - (begun + count)) = omega (arith, few) in
      sym (
      drop-map (moved_to row) count (take (end - begun) (drop begun starts))
      ∙ ap (λ n. map (moved_to row) (drop count (take n (drop begun starts)))) all
      ∙ ap (map (moved_to row)) (drop-take count (end - (begun + count)) (drop begun starts))
      ∙ ap (λ xs. map (moved_to row) (take (end - (begun + count)) xs)) (drop-drop count begun starts)
      )

  -- without the last ones
  pub between_take : (count : ℕ) → begun + count ≤ end → map (moved_to row) (take (end - count - begun) (drop begun starts))
      ≡ take (end - begun - count) (map (moved_to row) (take (end - begun) (drop begun starts)))
  between_take count few =
      let same : end - count - begun ≡ end - begun - count = omega arith in
      ap (λ n. map (moved_to row) (take n (drop begun starts))) same
      ∙ ap (map (moved_to row)) (sym (take-take (end - begun - count) (end - begun) (drop begun starts) (omega arith)))
      ∙ sym (take-map (moved_to row) (end - begun - count) (take (end - begun) (drop begun starts)))

  pub length-between : begun ≤ end → end ≤ length starts
      → length (map (moved_to row) (take (end - begun) (drop begun starts))) ≡ end - begun
  length-between number within =
      length-map (take (end - begun) (drop begun starts)) (moved_to row)
      ∙ length-take-le (end - begun) (drop begun starts) (omega (arith, length-drop begun starts, number, within))

-- so many of them, or all where they are fewer
pub fewer : (count n : ℕ) {X : Type 0} (xs : List X) {m : ℕ} → length xs ≡ n → m ≡ min count n
    → (drop m xs ≡ drop count xs) × (take (n - m) xs ≡ take (n - count) xs) × (m ≤ n)
fewer count n xs {m} all least = (
  ap (λ k. drop k xs) (least ∙ ap (min count) (sym all)) ∙ drop_min count xs,
  ap (λ k. take k xs) same,
  omega (arith, least, min-le_right count n),
)
  where
    same : n - m ≡ n - count
    same = elim (cases_lt m n) [
      | inl less ↦ omega (arith, (lesser count n least).0, is_count less)
      | inr more ↦ omega (arith, more, (lesser count n least).0)
    ]
      where
        is_count : m < n → m ≡ count
        is_count less = elim (cases_lt count n) [
          | inl below ↦ least ∙ min-eq_left (is_le below)
          | inr above ↦ absurd (omega (arith, less, least, min-eq_right above))
        ]
          where
            is_le : count < n → count ≤ n
            is_le below = omega (arith, below)

-- ---- what is left
module _ {order : Order} {view : View} {begun end : ℕ} (row : Row) (l : AreRowsBetween order view row.len begun end) where
  abbrev starts : List ℤ
  starts = view_places order view

  abbrev at : ℕ → ℤ
  at number = numbered_place order view number

  pub all_starts : end ≤ length starts
  all_starts = omega (arith, l.within, length-view_places order view)

  pub length-rows_between : length (rows_between order view row begun end) ≡ end - begun
  length-rows_between = length-between row starts begun end l.number all_starts

  pub length-places_between : length (rows_places (rows_between order view row begun end)) ≡ (end - begun) * row.len
  length-places_between =
      let these = take (end - begun) (drop begun starts) in
      places_of_rows row these
      ∙ ap (λ n. n * row.len) (sym (length-map these (moved_to row)) ∙ length-rows_between)

  -- fewer of them
  pub left_between : {begun' end' : ℕ} → begun ≤ begun' → begun' ≤ end' → end' ≤ end → AreRowsBetween order view row.len begun' end'
  left_between {begun'} {end'} later number before =
      let less : end' - begun' ≤ end - begun = omega (arith, later, number, before) in
      record {
        is_view = l.is_view;
        number = number;
        within = omega (arith, l.within, before);
        fits = omega (arith, l.fits, mul-le-mul_right row.len less);
      }

  -- without the last ones
  pub rows_cut : (count : ℕ) {m : ℕ} → m ≡ min count (end - begun)
      → rows_between order view row begun (end - m)
      ≡ take (length (rows_between order view row begun end) - count) (rows_between order view row begun end)
  rows_cut count {m} least =
      let rows = rows_between order view row begun end in
      let few = fewer count (end - begun) rows length-rows_between least in
      between_take row starts begun end m (omega (arith, few.2, l.number))
      ∙ few.1
      ∙ ap (λ n. take (n - count) rows) (sym length-rows_between)

  module _ (some : begun < end) where
    -- the first one
    pub first_between : {start : ℕ} → pos start ≡ at begun
        → rows_between order view row begun end
        ≡ record row { start = start } ∷ rows_between order view row (begun + 1) end
    first_between {start} e =
        let others = drop (begun + 1) starts in
        let more : end - begun ≡ end - (begun + 1) + 1 = omega (arith, some) in
        ap (λ places. map (moved_to row) (take (end - begun) places))
        (next_place order view begun (omega (arith, some, l.within)))
        ∙ ap (λ n. map (moved_to row) (take n (at begun ∷ others))) (more ∙ add-one (end - (begun + 1)))
        ∙ ap (λ place. moved_to row place ∷ map (moved_to row) (take (end - (begun + 1)) others)) (sym e)

    -- the last one
    pub last_between : {start : ℕ} → pos start ≡ at (end - 1)
        → rows_between order view row begun end
        ≡ rows_between order view row begun (end - 1) ++ record row { start = start } ∷ []
    last_between {start} e =
        let place_of = place view.start view.strides in
        let n = end - 1 - begun in
        let more : end - begun ≡ n + 1 = omega (arith, some) in
        let last : begun + n ≡ end - 1 = omega (arith, some) in
        let here : get_or (drop begun starts) n (place_of []) ≡ at (end - 1) =
        get_or-drop begun starts n (place_of [])
        ∙ get_or-map place_of (indices_in order view.shape) (begun + n) [] (place_of [])
        (omega (arith, some, l.within, length-indices_in order view.shape))
        ∙ ap place_of (get_or-indices_in order view.shape (begun + n) [] (omega (arith, some, l.within)))
        ∙ ap at last in
        ap (λ k. map (moved_to row) (take k (drop begun starts))) more
        ∙ ap (map (moved_to row)) (take_more (drop begun starts) n (place_of [])
        (omega (arith, some, length-drop begun starts, all_starts)))
        ∙ map-append (moved_to row) (take n (drop begun starts)) (get_or (drop begun starts) n (place_of []) ∷ [])
        ∙ ap (λ z. rows_between order view row begun (end - 1) ++ moved_to row z ∷ []) (here ∙ sym e)

-- ---- at first
-- all that there are
pub all_between : {order : Order} {view : View} {len rows : ℕ} → IsView view
    → cond (nat_eq len 0) 0 (size view.shape) * len ≤ limit
    → rows ≡ cond (nat_eq len 0) 0 (size view.shape) → AreRowsBetween order view len 0 rows
all_between {order} {view} {len} {rows} v fits count =
    let all : rows - 0 ≡ cond (nat_eq len 0) 0 (size view.shape) = omega (arith, count) in
    record {
      is_view = v;
      number = omega arith;
      within = few_or_none (nat_eq len 0) (size view.shape) rows count;
      fits = omega (arith, fits, ap (λ n. n * len) all);
    }

-- those of an axis, from the places of the others
module _ (order : Order) (start : ℕ) (axis : Fastest) (v : IsView (axis_view order start axis)) where
  abbrev pub all_rows : ℕ
  all_rows = cond (nat_eq axis.len 0) 0 (size axis.lens.now)

  pub few_of_axis : all_rows * axis.len ≤ limit
  few_of_axis = rows_fit order start axis v refl

  pub rows_of_axis : {step : ℤ} → step ≡ signed axis.stride
      → rows_between order (view_of start axis.lens.now axis.strides.now) (record { start = 0; stride = step; len = axis.len }) 0 all_rows
      ≡ view_rows order (axis_view order start axis)
  rows_of_axis {step} steps =
      let all : all_rows - 0 ≡ all_rows = omega arith in
      let starts = view_places order (view_of start axis.lens.now axis.strides.now) in
      ap (λ n. map (moved_to (record { start = 0; stride = step; len = axis.len })) (take n starts)) all
      ∙ first_rows order start axis v refl (record { start = 0; stride = step; len = axis.len }) steps refl

-- the slowest axes of a view, by the strides as they are kept
pub slowest_view-of : (order : Order) (count start : ℕ) (lens strides : List ℕ)
    → slowest_view order count (view_of start lens strides) ≡ view_of start (slowest order count lens) (slowest order count strides)
slowest_view-of order count start lens strides = rw (slowest-map order signed count strides) refl

module _ (order : Order) (start : ℕ) (lens strides : List ℕ) (axis : Fastest) {view : View} (is : view_of start lens strides ≡ view)
    (whole : IsView (view_of start lens strides)) (v : IsView (axis_view order start axis)) (of_lens : IsSlowest order lens axis.lens.now)
    (of_strides : IsSlowest order strides axis.strides.now) where
  same_counts : length axis.lens.now ≡ length axis.strides.now
  same_counts = omega (arith, (IsView-slower order start axis v).valid.same_count, length-map axis.strides.now signed)

  pub same_view : slowest_view order (length axis.lens.now) view ≡ view_of start axis.lens.now axis.strides.now
  same_view =
      ap (slowest_view order (length axis.lens.now)) (sym is)
      ∙ slowest_view-of order (length axis.lens.now) start lens strides
      ∙ ap (λ xs. view_of start xs (slowest order (length axis.lens.now) strides)) of_lens.is
      ∙ ap (λ n. view_of start axis.lens.now (slowest order n strides)) same_counts
      ∙ ap (view_of start axis.lens.now) of_strides.is

  pub few_axes : length axis.lens.now ≤ length view.shape
  few_axes = omega (arith, of_lens.few, ap (λ w. length w.shape) is)

  pub is_slower_view : IsView (slowest_view order (length axis.lens.now) view)
  is_slower_view = subst IsView (sym same_view) (IsView-slower order start axis v)

  -- the rows of that axis
  abbrev all_of_view : ℕ
  all_of_view = cond (nat_eq axis.len 0) 0 (size (slowest order (length axis.lens.now) view.shape))

  count_of_view : all_of_view ≡ all_rows order start axis v
  count_of_view = ap (λ w. cond (nat_eq axis.len 0) 0 (size w.shape)) same_view

  pub few_of_view : all_of_view * axis.len ≤ limit
  few_of_view = omega (arith, few_of_axis order start axis v, ap (λ n. n * axis.len) count_of_view)

  pub rows_of_view : {step : ℤ} → step ≡ signed axis.stride
      → rows_between order (slowest_view order (length axis.lens.now) view) (record { start = 0; stride = step; len = axis.len })
      0 all_of_view
      ≡ view_rows order (axis_view order start axis)
  rows_of_view {step} steps =
      let row : Row = record { start = 0; stride = step; len = axis.len } in
      ap (rows_between order (slowest_view order (length axis.lens.now) view) row 0) count_of_view
      ∙ ap (λ w. rows_between order w row 0 (all_rows order start axis v)) same_view
      ∙ rows_of_axis order start axis v steps
