-- Two axes that follow one another as one: its places are those of both, and it is a view where they are.
use Rattle.std.proofs.Common.{◌≡◌, ℕ, zero, suc, ◌+◌, ◌*◌, ◌-◌, ◌%◌, ◌<◌, ◌≤◌, ℤ, pos, negsuc, ◌+ℤ◌, ◌-ℤ◌, ◌*ℤ◌, List, [], ◌∷◌, ◌++◌}
use Rattle.std.proofs.Common.{append_assoc, cond, eqb, length, refl, sym, ap, subst, ◌∙◌, arith}
use Rattle.std.proofs.lemmas.Grind.{flat_map-append}
use Rattle.std.proofs.lemmas.Int.{ints}
use Rattle.std.proofs.Math.Nat.{mul-le-mul_right}
use Rattle.std.proofs.lemmas.List.{append-nil, length-map}
use Rattle.std.proofs.lemmas.List.FromFn.{map-range_with_len_more}
use Rattle.std.proofs.lemmas.Nat.{div-mul-add, mod-mul-add, mul-add-lt}
use Rattle.nd_base.specs.declared.order.Order.{Order}
use Rattle.nd_base.proofs.Laws.AsRead.{length-as_read, nonzero_size-as_read, sum_over_axes-as_read}
use Rattle.nd_base.proofs.Laws.Definitions.{all_signed, high_span, limit, low_span, nonzero_size, reach_down, reach_up, signed}
use Rattle.nd_base.proofs.Laws.Definitions.{as_read, magnitude, reach, sum_over_axes}
use Rattle.nd_base.proofs.Laws.NonzeroSize.{length_le_nonzero_size, nonzero_size-push, nonzero_size_of_other, nonzero_size_of_zero}
use Rattle.nd_base.proofs.Laws.Span.{low_high_span, sum_over_axes-push}
use Rattle.nd_shape.specs.Merge.{IsMergedStride}
use Rattle.ndarray_layout.specs.declared.strided.rows.Fastest.{Fastest}
use Rattle.ndarray_layout.specs.RowsLeft.{axis_view}
use Rattle.ndarray_layout.specs.View.{IsView, view_of, view_places}
use Rattle.ndarray_layout.specs.private.Fastest.{EndsIn, HasPlaces, IsSlowest}
use Rattle.ndarray_layout.proofs.ByRows.{row_from, rows_from}
use Rattle.ndarray_layout.proofs.Fastest.{EndsIn-map, as_read-ends, fastest_item-ends, len_le_nonzero_size, length-others, places-others}
use Rattle.ndarray_layout.proofs.RowsLeft.{IsView-slower, ends, rows_of_one, steps}
use Rattle.ndarray_layout.proofs.SlowestAxes.{IsSlowest-all, IsSlowest-next}

-- ---- the places of two axes
-- one place more comes at the end of a row
pub row_from-more : (place stride : ℤ) (len : ℕ)
    → row_from place stride (len + 1) ≡ row_from place stride len ++ (place +ℤ (pos len *ℤ stride)) ∷ []
row_from-more place stride len = map-range_with_len_more (λ n. place +ℤ (pos n *ℤ stride)) 0 len len (omega arith)

module _ (t n : ℕ) (taken into stride : ℤ) (serves : IsMergedStride t taken n into stride) where
  -- past a coordinate of the slower axis, one row goes on as the row from there does
  goes_on : (place : ℤ) (q k : ℕ) → q < t → k ≤ n
      → row_from place stride (q * n + k) ≡ row_from place stride (q * n) ++ row_from (place +ℤ (pos q *ℤ taken)) into k
  goes_on place q zero here few =
      let same : q * n + 0 ≡ q * n = omega arith in
      ap (row_from place stride) same ∙ sym (append-nil (row_from place stride (q * n)))
  goes_on place q (suc k) here few =
      let there = place +ℤ (pos q *ℤ taken) in
      let before = row_from place stride (q * n) in
      let below : k < n = omega arith in
      let within : q * n + k < t * n = omega (arith, mul-add-lt q n k t here below) in
      let coordinate : pos (q * n + k) *ℤ stride ≡ (pos q *ℤ taken) +ℤ (pos k *ℤ into) =
      serves (q * n + k) within
      ∙ ap (λ i. (pos i *ℤ taken) +ℤ (pos ((q * n + k) % n) *ℤ into)) (div-mul-add q n k below)
      ∙ ap (λ i. (pos q *ℤ taken) +ℤ (pos i *ℤ into)) (mod-mul-add q n k below) in
      let at : place +ℤ (pos (q * n + k) *ℤ stride) ≡ there +ℤ (pos k *ℤ into) = omega (arith, ints, coordinate) in
      let count : q * n + suc k ≡ (q * n + k) + 1 = omega arith in
      let more : suc k ≡ k + 1 = omega arith in
      ap (row_from place stride) count
      ∙ row_from-more place stride (q * n + k)
      ∙ ap (λ xs. xs ++ (place +ℤ (pos (q * n + k) *ℤ stride)) ∷ []) (goes_on place q k here (omega arith))
      ∙ ap (λ z. (before ++ row_from there into k) ++ z ∷ []) at
      ∙ append_assoc before (row_from there into k) ((there +ℤ (pos k *ℤ into)) ∷ [])
      ∙ ap (λ xs. before ++ xs) (sym (row_from-more there into k))
      ∙ ap (λ m. before ++ row_from there into m) (sym more)

  -- so a row of rows is one row
  row_of_rows : (place : ℤ) (m : ℕ) → m ≤ t → rows_from into n (row_from place taken m) ≡ row_from place stride (m * n)
  row_of_rows place zero few =
      let none : 0 * n ≡ 0 = omega arith in
      sym (ap (row_from place stride) none)
  row_of_rows place (suc m) few =
      let there = place +ℤ (pos m *ℤ taken) in
      let count : suc m ≡ m + 1 = omega arith in
      let whole : m * n + n ≡ suc m * n = omega arith in
      ap (λ k. rows_from into n (row_from place taken k)) count
      ∙ ap (rows_from into n) (row_from-more place taken m)
      ∙ flat_map-append (λ start. row_from start into n) (row_from place taken m) (there ∷ [])
      ∙ ap (λ xs. xs ++ (row_from there into n ++ [])) (row_of_rows place m (omega arith))
      ∙ ap (λ xs. row_from place stride (m * n) ++ xs) (append-nil (row_from there into n))
      ∙ sym (goes_on place m n (omega arith) (omega arith))
      ∙ ap (row_from place stride) whole

  rows_of_rows : (starts : List ℤ) → rows_from into n (rows_from taken t starts) ≡ rows_from stride (t * n) starts
  rows_of_rows [] = refl
  rows_of_rows (start ∷ starts) =
      flat_map-append (λ start. row_from start into n) (row_from start taken t) (rows_from taken t starts)
      ∙ ap (λ xs. xs ++ rows_from into n (rows_from taken t starts)) (row_of_rows start t (omega arith))
      ∙ ap (λ xs. row_from start stride (t * n) ++ xs) (rows_of_rows starts)

  -- ---- how far one axis reaches
  -- its last coordinate is the last one of each
  last_of_both : 0 < t → 0 < n → pos (t * n - 1) *ℤ stride ≡ (pos (t - 1) *ℤ taken) +ℤ (pos (n - 1) *ℤ into)
  last_of_both some also =
      let last : t ≡ t - 1 + 1 = omega arith in
      let is : t * n - 1 ≡ (t - 1) * n + (n - 1) = omega (arith, ap (λ m. m * n) last) in
      let below : n - 1 < n = omega arith in
      let within : (t - 1) * n + (n - 1) < t * n = omega (arith, mul-add-lt (t - 1) n (n - 1) t (omega arith) below) in
      ap (λ j. pos j *ℤ stride) is
      ∙ serves ((t - 1) * n + (n - 1)) within
      ∙ ap (λ i. (pos i *ℤ taken) +ℤ (pos (((t - 1) * n + (n - 1)) % n) *ℤ into)) (div-mul-add (t - 1) n (n - 1) below)
      ∙ ap (λ i. (pos (t - 1) *ℤ taken) +ℤ (pos i *ℤ into)) (mod-mul-add (t - 1) n (n - 1) below)

-- an axis reaches up as far as its last coordinate lies, or down
reaches : (len : ℕ) (stride : ℤ) → pos (len - 1) *ℤ stride ≡ pos (reach_up len stride) -ℤ pos (reach_down len stride)
reaches len (pos s) = omega (arith, ints)
reaches len (negsuc s) = omega (arith, ints)

-- so it reaches no further to either side than two numbers whose difference that is
reaches_least : (len : ℕ) (stride : ℤ) (up down : ℕ) → pos (len - 1) *ℤ stride ≡ pos up -ℤ pos down
    → (reach_up len stride ≤ up) × (reach_down len stride ≤ down)
reaches_least len (pos s) up down e = (omega (arith, ints, e), omega arith)
reaches_least len (negsuc s) up down e = (omega arith, omega (arith, ints, e))

-- without a coordinate it reaches nowhere
reach_of_none : (len : ℕ) (stride : ℤ) → len ≡ 0 → (reach_up len stride ≡ 0) × (reach_down len stride ≡ 0)
reach_of_none zero (pos s) none = (omega arith, omega arith)
reach_of_none zero (negsuc s) none = (omega arith, omega arith)
reach_of_none (suc len) stride none = absurd (omega arith)

-- one axis reaches no further than both
no_further : (t n : ℕ) (taken into stride : ℤ) → IsMergedStride t taken n into stride
    → (reach_up (t * n) stride ≤ reach_up n into + reach_up t taken) × (reach_down (t * n) stride ≤ reach_down n into + reach_down t taken)
no_further zero n taken into stride serves =
    let none = reach_of_none (0 * n) stride (omega arith) in
    (omega (arith, none.0), omega (arith, none.1))
no_further (suc t) zero taken into stride serves =
    let none = reach_of_none (suc t * 0) stride (omega arith) in
    (omega (arith, none.0), omega (arith, none.1))
no_further (suc t) (suc n) taken into stride serves =
    reaches_least (suc t * suc n) stride (reach_up (suc n) into + reach_up (suc t) taken)
    (reach_down (suc n) into + reach_down (suc t) taken)
    (omega (
      arith,
      ints,
      last_of_both (suc t) (suc n) taken into stride serves (omega arith) (omega arith),
      reaches (suc t) taken,
      reaches (suc n) into,
    ))

-- and has no more places than both
no_longer : (n t : ℕ) (lens : List ℕ) → nonzero_size (t * n ∷ lens) ≤ nonzero_size (n ∷ (t ∷ lens))
no_longer zero zero lens = omega arith
no_longer zero (suc t) lens =
    omega (
      arith,
      nonzero_size_of_zero (suc t * 0) lens (omega arith),
      nonzero_size_of_other (suc t) lens (λ none. omega (arith, none)),
    )
no_longer (suc n) zero lens =
    omega (
      arith,
      nonzero_size_of_zero (0 * suc n) lens (omega arith),
      nonzero_size_of_other (suc n) (0 ∷ lens) (λ none. omega (arith, none)),
    )
no_longer (suc n) (suc t) lens =
    omega (
      arith,
      nonzero_size_of_other (suc t * suc n) lens (λ none. omega (arith, none)),
      nonzero_size_of_other (suc n) (suc t ∷ lens) (λ none. omega (arith, none)),
      ap (λ k. suc n * k) (nonzero_size_of_other (suc t) lens (λ none. omega (arith, none))),
    )

-- ---- sums over axes, by the fastest one
module _ {order : Order} {shape lens : List ℕ} {len : ℕ} (e : EndsIn order shape lens len) where
  nonzero_size-others : nonzero_size shape ≡ nonzero_size (len ∷ lens)
  nonzero_size-others =
      sym (nonzero_size-as_read order shape) ∙ ap nonzero_size (as_read-ends e) ∙ nonzero_size-push (as_read order lens) len
      ∙ ap (λ n. cond (eqb len 0) n (len * n)) (nonzero_size-as_read order lens)

  sum-others : (f : ℕ → ℤ → ℕ) {strides others : List ℤ} {stride : ℤ} → EndsIn order strides others stride → length shape ≡ length strides
      → sum_over_axes f shape strides ≡ f len stride + sum_over_axes f lens others
  sum-others f {strides} {others} {stride} g count =
      let less : length lens ≡ length others = omega (arith, length-others e, length-others g, count) in
      let read : length (as_read order lens) ≡ length (as_read order others) =
      omega (arith, less, length-as_read order lens, length-as_read order others) in
      sym (sum_over_axes-as_read order f shape strides count)
      ∙ ap (λ xs. sum_over_axes f xs (as_read order strides)) (as_read-ends e)
      ∙ ap (sum_over_axes f (as_read order lens ++ len ∷ [])) (as_read-ends g)
      ∙ sum_over_axes-push f (as_read order lens) (as_read order others) len stride read
      ∙ ap (λ n. f len stride + n) (sum_over_axes-as_read order f lens others less)

-- ---- an axis of length 1 more
pub HasPlaces-one : (order : Order) (axis : Fastest) → axis.len ≡ 1 → HasPlaces order axis.lens.now axis.strides.now axis
HasPlaces-one order axis one = record {
  slower_lens = IsSlowest-all order axis.lens.now;
  slower_strides = IsSlowest-all order axis.strides.now;
  is_view = is_view;
  places = λ start v.
      let places = view_places order (view_of start axis.lens.now axis.strides.now) in
      places-others order (ends order start axis) (steps order start axis) (is_view start v)
      ∙ ap (λ n. rows_from (signed axis.stride) n places) one
      ∙ rows_of_one (signed axis.stride) places;
}
  where
    nowhere : (stride : ℤ) → (reach_up 1 stride ≡ 0) × (reach_down 1 stride ≡ 0)
    nowhere (pos s) = (omega arith, omega arith)
    nowhere (negsuc s) = (omega arith, omega arith)

    is_view : (start : ℕ) → IsView (view_of start axis.lens.now axis.strides.now) → IsView (axis_view order start axis)
    is_view start v =
        let here = axis_view order start axis in
        let count : length here.shape ≡ length here.strides =
        omega (arith, length-others (ends order start axis), length-others (steps order start axis), v.valid.same_count) in
        let sum = λ (g : ℕ → ℤ → ℕ). sum-others (ends order start axis) g (steps order start axis) count
        ∙ ap (λ n. g n (signed axis.stride) + sum_over_axes g axis.lens.now (all_signed axis.strides.now)) one in
        let none = nowhere (signed axis.stride) in
        let same : nonzero_size here.shape ≡ nonzero_size (1 ∷ axis.lens.now) =
        nonzero_size-others (ends order start axis) ∙ ap (λ n. nonzero_size (n ∷ axis.lens.now)) one in
        let low : low_span here.shape here.strides ≡ low_span axis.lens.now (all_signed axis.strides.now) =
        omega (arith, sum reach_down, none.1) in
        let high : high_span here.shape here.strides ≡ high_span axis.lens.now (all_signed axis.strides.now) =
        omega (arith, sum reach_up, none.0) in
        record {
          valid = record {
            same_count = count;
            size_fits = omega (arith, same, v.valid.size_fits);
            span_fits = omega (arith, low_high_span here.shape here.strides, low, high, v.low, v.high);
          };
          low = omega (arith, low, v.low);
          high = omega (arith, high, v.high);
        }

-- ---- an axis, and the fastest one of those that move slower
pub record IsNext (order : Order) (axis next : Fastest) : Type 0 where
  pub lens : EndsIn order axis.lens.now next.lens.now next.len
  pub strides : EndsIn order axis.strides.now next.strides.now next.stride

module _ (order : Order) (start : ℕ) (axis : Fastest) (v : IsView (axis_view order start axis)) where
  slower : IsView (view_of start axis.lens.now axis.strides.now)
  slower = IsView-slower order start axis v

  pub counts : length axis.lens.now ≡ length axis.strides.now
  counts = omega (arith, slower.valid.same_count, length-map axis.strides.now signed)

  pub len_fits : axis.len ≤ limit
  len_fits = omega (arith, len_le_nonzero_size (ends order start axis), v.valid.size_fits)

  module _ {next : Fastest} (is : IsNext order axis next) where
    signs : EndsIn order (all_signed axis.strides.now) (all_signed next.strides.now) (signed next.stride)
    signs = EndsIn-map signed is.strides

    both : (g : ℕ → ℤ → ℕ) → sum_over_axes g (axis_view order start axis).shape (axis_view order start axis).strides
        ≡ g axis.len (signed axis.stride) + (g next.len (signed next.stride) + sum_over_axes g next.lens.now (all_signed next.strides.now))
    both g = sum-others (ends order start axis) g (steps order start axis) v.valid.same_count
        ∙ ap (λ n. g axis.len (signed axis.stride) + n) (sum-others is.lens g signs slower.valid.same_count)

    -- and so fits the length of both together
    pub both_fit : next.len * axis.len ≤ limit
    both_fit =
        let all = nonzero_size-others (ends order start axis)
        ∙ ap (λ n. cond (eqb axis.len 0) n (axis.len * n)) (nonzero_size-others is.lens) in
        omega (
          arith,
          all,
          no_longer axis.len next.len next.lens.now,
          length_le_nonzero_size (next.len * axis.len ∷ next.lens.now) 0,
          v.valid.size_fits,
        )

    -- one step along it and all along the axis is no further than all reach
    pub next_fits : 1 < next.len → magnitude (signed next.stride) + reach axis.len (signed axis.stride) ≤ limit
    next_fits long =
        let far : 1 * magnitude (signed next.stride) ≤ (next.len - 1) * magnitude (signed next.stride) =
        mul-le-mul_right (magnitude (signed next.stride)) (omega arith) in
        omega (arith, far, both reach, v.valid.span_fits)

-- both as one
pub record Joins (order : Order) (axis next joined : Fastest) : Type 0 where
  pub follows : IsNext order axis next
  pub serves : IsMergedStride next.len (signed next.stride) axis.len (signed axis.stride) (signed joined.stride)
  pub len : joined.len ≡ next.len * axis.len
  pub slower_lens : joined.lens.now ≡ next.lens.now
  pub slower_strides : joined.strides.now ≡ next.strides.now

module _ {order : Order} {start : ℕ} {axis next joined : Fastest} (f : Joins order axis next joined)
    (v : IsView (axis_view order start axis)) where
  count : length (axis_view order start joined).shape ≡ length (axis_view order start joined).strides
  count = omega (
    arith,
    length-others (ends order start joined),
    length-others (steps order start joined),
    length-others f.follows.lens,
    length-others (signs order start axis v f.follows),
    (slower order start axis v).valid.same_count,
    ap length f.slower_lens,
    ap (λ xs. length (all_signed xs)) f.slower_strides,
  )

  one : (g : ℕ → ℤ → ℕ) → sum_over_axes g (axis_view order start joined).shape (axis_view order start joined).strides
      ≡ g (next.len * axis.len) (signed joined.stride) + sum_over_axes g next.lens.now (all_signed next.strides.now)
  one g = sum-others (ends order start joined) g (steps order start joined) count
      ∙ ap (λ n. g n (signed joined.stride) + sum_over_axes g joined.lens.now (all_signed joined.strides.now)) f.len
      ∙ ap (λ xs. g (next.len * axis.len) (signed joined.stride) + sum_over_axes g xs (all_signed joined.strides.now)) f.slower_lens
      ∙ ap (λ xs. g (next.len * axis.len) (signed joined.stride) + sum_over_axes g next.lens.now (all_signed xs)) f.slower_strides

  no_more : nonzero_size (axis_view order start joined).shape ≤ nonzero_size (axis_view order start axis).shape
  no_more =
      let all = nonzero_size-others (ends order start axis)
      ∙ ap (λ n. cond (eqb axis.len 0) n (axis.len * n)) (nonzero_size-others f.follows.lens) in
      let now = nonzero_size-others (ends order start joined)
      ∙ ap (λ n. nonzero_size (n ∷ joined.lens.now)) f.len
      ∙ ap (λ xs. nonzero_size (next.len * axis.len ∷ xs)) f.slower_lens in
      omega (arith, all, now, no_longer axis.len next.len next.lens.now)

  -- are a view
  pub IsView-joined : IsView (axis_view order start joined)
  IsView-joined =
      let less = no_further next.len axis.len (signed next.stride) (signed axis.stride) (signed joined.stride) f.serves in
      let here = axis_view order start joined in
      let low : low_span here.shape here.strides ≤ start =
      omega (arith, one reach_down, both order start axis v f.follows reach_down, less.1, v.low) in
      let high : start + high_span here.shape here.strides ≤ limit =
      omega (arith, one reach_up, both order start axis v f.follows reach_up, less.0, v.high) in
      record {
        valid = record {
          same_count = count;
          size_fits = omega (arith, no_more, v.valid.size_fits);
          span_fits = omega (arith, low_high_span here.shape here.strides, low, high);
        };
        low = low;
        high = high;
      }

  -- of the same places
  pub places-joined : view_places order (axis_view order start joined) ≡ view_places order (axis_view order start axis)
  places-joined =
      let starts = view_places order (view_of start next.lens.now next.strides.now) in
      let stride = signed joined.stride in
      let len = next.len * axis.len in
      places-others order (ends order start joined) (steps order start joined) IsView-joined
      ∙ ap (λ n. rows_from stride n (view_places order (view_of start joined.lens.now joined.strides.now))) f.len
      ∙ ap (λ xs. rows_from stride len (view_places order (view_of start xs joined.strides.now))) f.slower_lens
      ∙ ap (λ xs. rows_from stride len (view_places order (view_of start next.lens.now xs))) f.slower_strides
      ∙ sym (rows_of_rows next.len axis.len (signed next.stride) (signed axis.stride) stride f.serves starts)
      ∙ ap (rows_from (signed axis.stride) axis.len)
      (sym (places-others order f.follows.lens (signs order start axis v f.follows) (slower order start axis v)))
      ∙ sym (places-others order (ends order start axis) (steps order start axis) v)

-- so the places of a layout stay
pub HasPlaces-joined : {order : Order} {lens strides : List ℕ} {axis next joined : Fastest} → HasPlaces order lens strides axis
    → Joins order axis next joined → HasPlaces order lens strides joined
HasPlaces-joined {order} {lens} {strides} has f = record {
  slower_lens = subst (IsSlowest order lens) (sym f.slower_lens) (IsSlowest-next has.slower_lens f.follows.lens);
  slower_strides = subst (IsSlowest order strides) (sym f.slower_strides) (IsSlowest-next has.slower_strides f.follows.strides);
  is_view = λ start v. IsView-joined f (has.is_view start v);
  places = λ start v. places-joined f (has.is_view start v) ∙ has.places start v;
}

-- the fastest one of a list is one
pub same_item : {order : Order} {items others rest : List ℕ} {item other : ℕ} → EndsIn order items others item
    → EndsIn order items rest other → item ≡ other
same_item e g = sym (fastest_item-ends 0 e) ∙ fastest_item-ends 0 g
