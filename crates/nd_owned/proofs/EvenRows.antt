-- Rows that lie a stride apart: those of a view of two axes, how many places they have, and the row of a number.
use Rattle.std.proofs.Common.{◌≡◌, ℕ, zero, suc, ◌*◌, ◌+◌, ◌<◌, ◌≤◌, ◌^◌, ℤ, pos, ◌+ℤ◌, ◌*ℤ◌, Bool, true, false, cond}
use Rattle.std.proofs.Common.{Some, None, List, [], ◌∷◌, length, map, drop, nat_eq, refl, sym, ap, subst, ◌∙◌, arith, eqb-true}
use Rattle.std.specs.List.{All}
use Rattle.std.specs.Int.{w64}
use Rattle.std.specs.Option.{option_map, option_or}
use Rattle.std.specs.Prelude.{FitsSigned, nat_lt, slice_get}
use Rattle.std.proofs.lemmas.List.{append-nil, drop_all, length-append, length-map}
use Rattle.std.proofs.lemmas.List.Elements.{All-cons, All-nil}
use Rattle.std.proofs.lemmas.Bool.{and_from, lt-ltb}
use Rattle.std.proofs.lemmas.Int.{ints}
use Rattle.std.proofs.Math.IntN.{zero-*ℤ}
use Rattle.std.proofs.lemmas.Option.{slice_get-get_or, slice_get-map}
use Rattle.ndarray_layout.specs.declared.Fit.TheVariants.{Strict}
use Rattle.ndarray_layout.specs.declared.Slice.{Slice}
use Rattle.ndarray_layout.specs.declared.SliceInfoElem.{SliceInfoElem}
use Rattle.ndarray_layout.specs.declared.SliceInfoElem.TheVariants as elem
use Rattle.ndarray_layout.specs.AxisFault.{index_fault, slice_fault}
use Rattle.ndarray_layout.specs.SliceBounds.{meaning}
use Rattle.ndarray_layout.proofs.Laws.AxisFault.{coordinate_below, index_fits_of_no_fault}
use Rattle.ndarray_layout.proofs.Laws.Offset.{coordinate_bounds}
use Rattle.ndarray_layout.proofs.Laws.Span.{reach_parts}
use Rattle.ndarray_layout.specs.Picks.{picks}
use Rattle.ndarray_layout.specs.SliceFault.{argument_fault}
use Rattle.ndarray_layout.specs.SlicedAxis.{first_offset, picked_stride}
use Rattle.ndarray_layout.specs.SlicedView.{slice_of, sliced_start}
use Rattle.ndarray_layout.specs.ValidLayout.{IsValidLayout}
use Rattle.ndarray_layout.specs.declared.Order.TheVariants.{RowMajor}
use Rattle.ndarray_layout.specs.declared.Row.{Row}
use Rattle.ndarray_layout.specs.Rows.{row_at, row_places, rows_places, slower_view}
use Rattle.ndarray_layout.specs.Signed.{magnitude, signed}
use Rattle.ndarray_layout.specs.Size.{limit, size}
use Rattle.ndarray_layout.specs.Indices.{is_index}
use Rattle.ndarray_layout.specs.View.{View, IsPlace, IsView, LiesWithin, view_places}
use Rattle.ndarray_layout.proofs.Laws.NonzeroSize.{length_le_nonzero_size, nonzero_size_of_other, size_le_nonzero_size}
use Rattle.ndarray_layout.proofs.Laws.Rows.{get_or-row_places, left_from, length-row_places, places-row_view, rows_places-view_rows}
use Rattle.ndarray_layout.proofs.Laws.SlicedView.{Descends-slice_of, sliced_start_within}
use Rattle.ndarray_layout.proofs.Laws.View.{view_place}
use Rattle.nd_owned.proofs.ViewRows.{length_left, rows_in_bounds}
use Rattle.nd_lent.specs.LentRow.{places_of}
use Rattle.nd_owned.specs.private.Written.{AreInBounds}
use Rattle.nd_owned.specs.private.EvenRows.{even_rows, range_elem, row_from, view_of_two}
use Rattle.ndarray_layout.proofs.Laws.Signed.{magnitude_from}
use Rattle.nd_lent.proofs.Laws.RowItems.{start_there}

-- ---- how many places they have
length_of_each : (step : ℤ) (len : ℕ) (starts : List ℤ) → length (rows_places (map (row_from step len) starts)) ≡ length starts * len
length_of_each step len [] = omega arith
length_of_each step len (start ∷ starts) =
    let row = row_places (magnitude start) step len in
    let others = rows_places (map (row_from step len) starts) in
    omega (
      arith,
      length-append row others,
      length-row_places (magnitude start) step len,
      length_of_each step len starts,
      one_more (length starts) len,
    )
  where
    one_more : (n len : ℕ) → suc n * len ≡ len + n * len
    one_more n len = omega arith

pub length-even_rows : (start : ℕ) (step : ℤ) (len count : ℕ) (stride : ℤ)
    → length (rows_places (even_rows start step len count stride)) ≡ count * len
length-even_rows start step len count stride =
    length_of_each step len (row_places start stride count) ∙ ap (λ n. n * len) (length-row_places start stride count)

-- ---- where they begin
pub start_of : (start n count : ℕ) (stride : ℤ) → All IsPlace (row_places start stride count) → n < count
    → IsPlace (pos start +ℤ (pos n *ℤ stride))
start_of start n count stride starts below =
    subst IsPlace (get_or-row_places start stride count n (pos 0) below)
    (starts n (pos 0) (omega (arith, length-row_places start stride count)))

pub first_start : (start n count : ℕ) (stride : ℤ) → All IsPlace (row_places start stride count) → n < count → start ≤ limit
first_start start n count stride starts below =
    let first = start_of start 0 count stride starts (omega arith) in
    omega (arith, ints, (subst IsPlace (sym (start_there stride)) first).1)

pub steps_fit : (start n count : ℕ) (stride : ℤ) → All IsPlace (row_places start stride count) → n < count
    → FitsSigned w64 (pos n *ℤ stride)
steps_fit start n count stride starts below =
    omega (arith, ints, start_of start n count stride starts below, first_start start n count stride starts below)

-- ---- the row of a number
same_row : (row : Row) {start len : ℕ} {stride : ℤ} → row.start ≡ start → row.stride ≡ stride → row.len ≡ len
    → row ≡ record { start = start; stride = stride; len = len }
same_row row {start} {len} {stride} e f g =
    ap (λ s. record { start = s; stride = row.stride; len = row.len }) e
    ∙ ap (λ s. record { start = start; stride = s; len = row.len }) f
    ∙ ap (λ n. record { start = start; stride = stride; len = n }) g

module _ (start : ℕ) (step : ℤ) (len count : ℕ) (stride : ℤ) (number : ℕ) {row : Row} (below : number < count)
    (start_is : pos row.start ≡ pos start +ℤ (pos number *ℤ stride)) (step_is : row.stride ≡ step) (len_is : row.len ≡ len) where
  got : Some row ≡ slice_get (even_rows start step len count stride) number
  got =
      let starts = row_places start stride count in
      let here : slice_get starts number ≡ Some (pos start +ℤ (pos number *ℤ stride)) =
      slice_get-get_or starts number (pos 0) (omega (arith, length-row_places start stride count))
      ∙ ap Some (get_or-row_places start stride count number (pos 0) below) in
      ap Some (same_row row (ap magnitude start_is) step_is len_is)
      ∙ sym (slice_get-map (row_from step len) starts number ∙ ap (option_map (row_from step len)) here)

  -- it comes next where so many came before it
  pub row_of_number : drop number (even_rows start step len count stride) ≡ row ∷ drop (number + 1) (even_rows start step len count stride)
  row_of_number = left_from (even_rows start step len count stride) number got

-- so there is room for it among those that are left
pub room_for_row : (start : ℕ) (step : ℤ) (len count : ℕ) (stride : ℤ) (number : ℕ) → All IsPlace (row_places start stride count)
    → number < count → len ≤ length (rows_places (drop number (even_rows start step len count stride)))
room_for_row start step len count stride number starts below =
    let place = pos start +ℤ (pos number *ℤ stride) in
    let row : Row = row_from step len place in
    let begins = magnitude_from place (start_of start number count stride starts below).0 in
    omega (arith, length_left (row_of_number start step len count stride number {row = row} below begins refl refl))

-- in the end none is left
pub none_left : (start : ℕ) (step : ℤ) (len count : ℕ) (stride : ℤ) (number : ℕ) → count ≤ number
    → drop number (even_rows start step len count stride) ≡ []
none_left start step len count stride number end =
    drop_all number (even_rows start step len count stride)
    (omega (arith, length-map (row_places start stride count) (row_from step len), length-row_places start stride count))

-- ---- those of a view of two axes
abbrev pub the_view : ℕ → ℕ → ℕ → ℤ → ℤ → View
the_view start count len stride step = record { start = start; shape = count ∷ len ∷ []; strides = stride ∷ step ∷ [] }

module _ {start count len : ℕ} {stride step : ℤ}
    (v : IsView (record { start = start; shape = count ∷ len ∷ []; strides = stride ∷ step ∷ [] })) where
  abbrev view : View
  view = record { start = start; shape = count ∷ len ∷ []; strides = stride ∷ step ∷ [] }

  slower : 0 < count → IsView (record { start = start; shape = count ∷ []; strides = stride ∷ [] })
  slower some = record {
    valid = record {
      same_count = refl;
      size_fits = omega (
        arith,
        nonzero_size_of_other count [] (λ e. omega arith),
        length_le_nonzero_size (count ∷ len ∷ []) 0,
        v.valid.size_fits,
      );
      span_fits = omega (arith, v.valid.span_fits);
    };
    low = omega (arith, v.low);
    high = omega (arith, v.high);
  }

  starts_are : 0 < count
      → view_places RowMajor (record { start = start; shape = count ∷ []; strides = stride ∷ [] }) ≡ row_places start stride count
  starts_are some = places-row_view (record { start = start; stride = stride; len = count }) some (slower some)

  -- each row begins at a place, which is that of an index with the coordinate 0
  pub starts_fit : 0 < len → All IsPlace (row_places start stride count)
  starts_fit some k d below =
      let less : k < count = omega (arith, length-row_places start stride count) in
      let here = view_place (k ∷ 0 ∷ []) v (and_from (nat_lt k count) (is_index (len ∷ []) (0 ∷ []))
      (lt-ltb k count less) (and_from (nat_lt 0 len) true (lt-ltb 0 len some) refl)) in
      let there : IsPlace (pos start +ℤ (pos k *ℤ stride)) =
      (omega (arith, ints, zero-*ℤ step, here.0), omega (arith, ints, zero-*ℤ step, here.1)) in
      subst IsPlace (sym (get_or-row_places start stride count k d less)) there

  -- there are few places
  pub few_places : count * len ≤ limit
  few_places =
      let one : len * 1 ≡ len = omega arith in
      omega (arith, ap (λ n. count * n) one, size_le_nonzero_size (count ∷ len ∷ []), v.valid.size_fits)

  -- their places are those of the view
  pub places_are : 0 < count → 0 < len
      → rows_places (even_rows start step len count stride) ≡ view_places RowMajor view
  places_are rows some = by (nat_eq (size (count ∷ len ∷ [])) 0) refl ∙ rows_places-view_rows RowMajor v
    where
      by : (none : Bool) → nat_eq (size (count ∷ len ∷ [])) 0 ≡ none
          → rows_places (even_rows start step len count stride)
          ≡ rows_places (cond none [] (map (row_at RowMajor view) (view_places RowMajor (slower_view RowMajor view))))
      by true e = absurd (product count len rows some (eqb-true (size (count ∷ len ∷ [])) 0 e))
        where
          product : (a b : ℕ) → 0 < a → 0 < b → a * (b * 1) ≡ 0 → ⊥
          product (suc a) (suc b) x y z = absurd (omega (arith, z))
          product zero b x y z = absurd (omega arith)
          product (suc a) zero x y z = absurd (omega arith)
      by false e = ap (λ starts. rows_places (map (row_at RowMajor view) starts)) (sym (starts_are rows))

-- ---- what two ranges pick of a view of two axes
pub lens_fit : (n m : ℕ) {s t : ℤ} → IsValidLayout (n ∷ m ∷ []) (s ∷ t ∷ []) → (n ≤ limit) × (m ≤ limit)
lens_fit n m valid = (
  omega (arith, length_le_nonzero_size (n ∷ m ∷ []) 0, valid.size_fits),
  omega (arith, length_le_nonzero_size (n ∷ m ∷ []) 1, valid.size_fits),
)

-- equal numbers make equal views
same_numbers : {s r n i m j : ℕ} {a c b d : ℤ} → s ≡ r → n ≡ i → m ≡ j → a ≡ c → b ≡ d
    → the_view s n m a b ≡ the_view r i j c d
same_numbers {s} {r} {n} {i} {m} {j} {a} {c} {b} {d} e f g h k =
    ap (λ x. the_view x n m a b) e ∙ ap (λ x. the_view r x m a b) f ∙ ap (λ x. the_view r i x a b) g ∙ ap (λ x. the_view r i j x b) h
    ∙ ap (λ x. the_view r i j c x) k

module _ (start : ℕ) (lens strides : ℕ × ℕ) (one other : Slice) (v : IsView (view_of_two start lens strides))
    (first : None ≡ slice_fault Strict lens.0 one) (second : None ≡ slice_fault Strict lens.1 other) where
  abbrev elems : List SliceInfoElem
  elems = range_elem one ∷ range_elem other ∷ []

  none : argument_fault Strict (lens.0 ∷ lens.1 ∷ []) elems ≡ None
  none = ap (λ fault. option_or fault (option_or (slice_fault Strict lens.1 other) None)) (sym first) ∙ ap (λ fault. option_or fault None)
      (sym second)

  module _ {down right : ℤ} (d : down ≡ first_offset (picks Strict lens.0 one) (signed strides.0))
      (r : right ≡ first_offset (picks Strict lens.1 other) (signed strides.1)) where
    same_start : pos start +ℤ (down +ℤ right) ≡ sliced_start Strict elems (view_of_two start lens strides)
    same_start = omega (arith, ints, d, r)

    -- where they begin
    pub begins_there : IsPlace (pos start +ℤ (down +ℤ right))
    begins_there = subst IsPlace (sym same_start) (sliced_start_within Strict elems (view_of_two start lens strides) v none)

    pub offset_fits : FitsSigned w64 (down +ℤ right)
    offset_fits = omega (arith, ints, begins_there, v.high)

    -- the view that they are
    module _ {begin count len : ℕ} {across along : ℤ} (b : pos begin ≡ pos start +ℤ (down +ℤ right))
        (c : count ≡ length (picks Strict lens.0 one)) (l : len ≡ length (picks Strict lens.1 other))
        (a : across ≡ picked_stride (length (picks Strict lens.0 one)) (signed strides.0) one.step)
        (t : along ≡ picked_stride (length (picks Strict lens.1 other)) (signed strides.1) other.step) where
      pub same_view : the_view begin count len across along ≡ slice_of Strict elems (view_of_two start lens strides)
      same_view = same_numbers (ap magnitude (b ∙ same_start)) c l a t

      pub is_view : IsView (the_view begin count len across along)
      is_view = subst IsView (sym same_view) (Descends-slice_of Strict elems (view_of_two start lens strides) v none).is_view

-- ---- what an index and a range pick of it: one row
pub one_row : (start : ℕ) (step : ℤ) (len : ℕ) → rows_places (even_rows start step len 1 (pos 0)) ≡ row_places start step len
one_row start step len =
    append-nil (row_places (start + 0) step len)
    ∙ ap (λ start. row_places start step len) (let same : start + 0 ≡ start = omega arith in same)

pub one_start : {start : ℕ} → start ≤ limit → All IsPlace (row_places start (pos 0) 1)
one_start {start} few =
    let here : IsPlace (pos (start + 0)) = (omega (arith, ints), omega (arith, ints, few)) in
    All-cons IsPlace (pos (start + 0)) [] here (All-nil IsPlace)

abbrev pub row_alone : ℕ → ℕ → ℤ → View
row_alone start len step = record { start = start; shape = len ∷ []; strides = step ∷ [] }

pub few_in_row : {start len : ℕ} {step : ℤ} → IsView (row_alone start len step) → 1 * len ≤ limit
few_in_row {len = len} v = omega (arith, length_le_nonzero_size (len ∷ []) 0, v.valid.size_fits)

same_row_alone : {s r m j : ℕ} {b d : ℤ} → s ≡ r → m ≡ j → b ≡ d → row_alone s m b ≡ row_alone r j d
same_row_alone {s} {r} {m} {j} {b} {d} e g k = ap (λ x. row_alone x m b) e ∙ ap (λ x. row_alone r x b) g ∙ ap (λ x. row_alone r j x) k

module _ (start : ℕ) (lens strides : ℕ × ℕ) (index : ℤ) (range : Slice) (v : IsView (view_of_two start lens strides))
    (at : None ≡ index_fault lens.0 index) where
  pub coordinate_fits : {n : ℕ} → pos n ≡ meaning lens.0 index → (n < 2 ^ 63) × FitsSigned w64 (pos n *ℤ signed strides.0)
  coordinate_fits {n} e =
      let coordinate = coordinate_below lens.0 index (index_fits_of_no_fault lens.0 index (sym at)) in
      let below : n < lens.0 = omega (arith, ints, coordinate.0, coordinate.1, e) in
      let bounds = coordinate_bounds lens.0 (signed strides.0) n below in (
        omega (arith, below, (lens_fit lens.0 lens.1 v.valid).0),
        omega (arith, ints, bounds.0, bounds.1, reach_parts lens.0 (signed strides.0), v.valid.span_fits),
      )

  module _ (second : None ≡ slice_fault Strict lens.1 range) where
    abbrev row_elems : List SliceInfoElem
    row_elems = elem.Index index ∷ range_elem range ∷ []

    no_fault : argument_fault Strict (lens.0 ∷ lens.1 ∷ []) row_elems ≡ None
    no_fault = ap (λ fault. option_or fault (option_or (slice_fault Strict lens.1 range) None)) (sym at)
        ∙ ap (λ fault. option_or fault None) (sym second)

    module _ {down right : ℤ} (d : down ≡ meaning lens.0 index *ℤ signed strides.0)
        (r : right ≡ first_offset (picks Strict lens.1 range) (signed strides.1)) where
      same_begin : pos start +ℤ (down +ℤ right) ≡ sliced_start Strict row_elems (view_of_two start lens strides)
      same_begin = omega (arith, ints, d, r)

      pub row_begins_there : IsPlace (pos start +ℤ (down +ℤ right))
      row_begins_there = subst IsPlace (sym same_begin) (sliced_start_within Strict row_elems (view_of_two start lens strides) v no_fault)

      pub row_offset_fits : FitsSigned w64 (down +ℤ right)
      row_offset_fits = omega (arith, ints, row_begins_there, v.high)

      module _ {begin len : ℕ} {along : ℤ} (b : pos begin ≡ pos start +ℤ (down +ℤ right))
          (l : len ≡ length (picks Strict lens.1 range))
          (t : along ≡ picked_stride (length (picks Strict lens.1 range)) (signed strides.1) range.step) where
        same_row_view : row_alone begin len along ≡ slice_of Strict row_elems (view_of_two start lens strides)
        same_row_view = same_row_alone (ap magnitude (b ∙ same_begin)) l t

        pub row_is_view : IsView (row_alone begin len along)
        row_is_view = subst IsView (sym same_row_view)
            (Descends-slice_of Strict row_elems (view_of_two start lens strides) v no_fault).is_view

        pub row_places_are : 0 < len → rows_places (even_rows begin along len 1 (pos 0))
            ≡ view_places RowMajor (slice_of Strict row_elems (view_of_two start lens strides))
        row_places_are some =
            one_row begin along len
            ∙ sym (places-row_view (record { start = begin; stride = along; len = len }) some row_is_view)
            ∙ ap (view_places RowMajor) same_row_view

-- ---- rows that have the places of a slice lie where the view does
pub slice_rows_in_bounds : {count : ℕ} (view : View) (elems : List SliceInfoElem) (rows : List Row) → IsView view → LiesWithin count view
    → argument_fault Strict view.shape elems ≡ None → rows_places rows ≡ view_places RowMajor (slice_of Strict elems view)
    → All (λ row. AreInBounds count (places_of row)) rows
slice_rows_in_bounds {count} view elems rows v within fits places =
    let slice = Descends-slice_of Strict elems view v fits in
    rows_in_bounds (slice_of Strict elems view) rows places slice.is_view (slice.in_bounds count within)
