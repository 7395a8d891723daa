-- Laws of the rows of a view: their places one after another are those of the view, each row has one, and each lies where the view does.
use Rattle.std.proofs.Common.{◌≡◌, ℕ, zero, suc, ◌+◌, ◌*◌, ◌<◌, ◌^◌, ℤ, pos, negsuc, ◌+ℤ◌, ◌*ℤ◌, ◌≤ℤ◌, Bool, true, false, cond, List}
use Rattle.std.proofs.Common.{[], ◌∷◌, ◌++◌}
use Rattle.std.proofs.Common.{◌≤◌, Some, None, drop, drop-cons, add-one, length, length-append, get_or, map, nat_eq, refl, sym, ap}
use Rattle.std.proofs.Common.{subst, ◌∙◌, arith, pos_of_ne-zero, eqb-true}
use Rattle.std.specs.Prelude.{slice_get}
use Rattle.std.specs.List.{All}
use Rattle.std.proofs.Math.Seq.{drop-append_seam, drop-nil, take-append_seam}
use Rattle.std.proofs.lemmas.Bool.{eqb-false}
use Rattle.std.proofs.lemmas.Int.{ints}
use Rattle.std.proofs.lemmas.List.Elements.{All-cons, All-drop, All-head, All-map, All-nil, All-tail, All-take, All-weaker}
use Rattle.std.proofs.lemmas.List.{append-nil}
use Rattle.std.proofs.lemmas.List.FromFn.{get_or-map-range_with_len, length-map-range_with_len, map-range_with_len_more}
use Rattle.std.proofs.lemmas.Option.{get_or_from_slice_get, none-some, slice_get_within}
use Rattle.nd_base.specs.declared.order.Order.{Order}
use Rattle.nd_base.specs.declared.order.Order.TheVariants.{RowMajor, ColumnMajor}
use Rattle.nd_base.proofs.Laws.Definitions.{below, indices_in, is_index, limit, IsInBounds, place, size}
use Rattle.nd_base.proofs.Laws.Indices.{All-indices_in}
use Rattle.nd_base.proofs.Laws.Bounds.{in_bounds_from}
use Rattle.nd_base.proofs.Laws.NonzeroSize.{size_le_nonzero_size}
use Rattle.nd_base.proofs.Laws.Signed.{magnitude_from}
use Rattle.ndarray_layout.specs.declared.strided.rows.Row.{Row}
use Rattle.ndarray_layout.specs.Rows.{fastest_item, row_at, row_places, row_view, rows_places, slower_items, slower_view, view_rows}
use Rattle.ndarray_layout.specs.View.{View, IsView, LiesWithin, place_at, view_places}
use Rattle.ndarray_layout.proofs.ByRows.{row_from, rows_from}
use Rattle.ndarray_layout.proofs.Fastest.{IsView-others, ends_of_some, places-others, size-others}
use Rattle.ndarray_layout.proofs.Laws.View.{length-view_places, no_places, places_lie_within, view_place}

-- ---- a row, and rows
-- its first place is the start
pub no_step : (place stride : ℤ) → place +ℤ (pos 0 *ℤ stride) ≡ place
no_step place (pos s) = omega (arith, ints)
no_step place (negsuc s) = omega (arith, ints)

-- and each other one lies a stride after the one before it
pub one_more_step : (i : ℕ) (stride : ℤ) → pos (i + 1) *ℤ stride ≡ (pos i *ℤ stride) +ℤ stride
one_more_step i (pos s) = omega (arith, ints)
one_more_step i (negsuc s) = omega (arith, ints)

-- as many places as its length says
pub length-row_places : (start : ℕ) (stride : ℤ) (len : ℕ) → length (row_places start stride len) ≡ len
length-row_places start stride len = length-map-range_with_len (λ i. pos start +ℤ (pos i *ℤ stride)) 0 len

-- its place i
pub get_or-row_places : (start : ℕ) (stride : ℤ) (len i : ℕ) (d : ℤ) → i < len
    → get_or (row_places start stride len) i d ≡ pos start +ℤ (pos i *ℤ stride)
get_or-row_places start stride len i d below =
    get_or-map-range_with_len (λ n. pos start +ℤ (pos n *ℤ stride)) 0 len i i d below (omega arith)

-- one place more comes at its end
pub row_more : (start : ℕ) (stride : ℤ) (len : ℕ)
    → row_places start stride (len + 1) ≡ row_places start stride len ++ (pos start +ℤ (pos len *ℤ stride)) ∷ []
row_more start stride len = map-range_with_len_more (λ n. pos start +ℤ (pos n *ℤ stride)) 0 len len (omega arith)

-- what holds of all places of rows holds of those of the first row, and of those of the others
pub All-first_row : (P : ℤ → Type 0) (row : Row) (rows : List Row) → All P (rows_places (row ∷ rows))
    → All P (row_places row.start row.stride row.len) × All P (rows_places rows)
All-first_row P row rows all =
    let first = row_places row.start row.stride row.len in (
      subst (All P) (take-append_seam first (rows_places rows)) (All-take P (length first) (first ++ rows_places rows) all),
      subst (All P) (drop-append_seam first (rows_places rows)) (All-drop P (length first) (first ++ rows_places rows) all),
    )

-- so of those of each
pub All-rows_places : (P : ℤ → Type 0) (rows : List Row) → All P (rows_places rows)
    → All (λ row. All P (row_places row.start row.stride row.len)) rows
All-rows_places P [] all = All-nil (λ row. All P (row_places row.start row.stride row.len))
All-rows_places P (row ∷ rows) all =
    let parts = All-first_row P row rows all in
    All-cons (λ row. All P (row_places row.start row.stride row.len)) row rows parts.0 (All-rows_places P rows parts.1)

-- ---- the places of a view
-- each place is a number of an `isize`, from 0 on
pub places_from_0 : (order : Order) {view : View} → IsView view → All (λ place. pos 0 ≤ℤ place) (view_places order view)
places_from_0 order {view} v =
    let indices = indices_in order view.shape in
    All-map (λ place. pos 0 ≤ℤ place) (place view.start view.strides) indices
    (All-weaker (λ index. is_index view.shape index ≡ true) (λ index. pos 0 ≤ℤ place_at view index) (λ index h. (view_place index v h).0)
    indices (All-indices_in order view.shape))

pub places_fit : (order : Order) {view : View} → IsView view → All (IsInBounds (2 ^ 63)) (view_places order view)
places_fit order {view} v = places_lie_within (2 ^ 63) order view (λ index is.
    let here = view_place index v is in
    in_bounds_from (2 ^ 63) (place_at view index) here.0 (omega (arith, ints, here.1)))

-- ---- the rows of a view
-- those from places on
from_places : (order : Order) (view : View) (places : List ℤ) → All (λ place. pos 0 ≤ℤ place) places
    → rows_places (map (row_at order view) places)
    ≡ rows_from (fastest_item order view.strides (pos 0)) (fastest_item order view.shape 1) places
from_places order view [] low = refl
from_places order view (place ∷ places) low =
    let stride = fastest_item order view.strides (pos 0) in
    let len = fastest_item order view.shape 1 in
    let start = magnitude_from place (All-head (λ place. pos 0 ≤ℤ place) place places low) in
    ap (λ first. row_from first stride len ++ rows_places (map (row_at order view) places)) start
    ∙ ap (λ others. row_from place stride len ++ others)
    (from_places order view places (All-tail (λ place. pos 0 ≤ℤ place) place places low))

-- without axes there is one place
of_no_axes : (order : Order) (start : ℕ) → rows_places (view_rows order (record { start = start; shape = []; strides = [] }))
    ≡ view_places order (record { start = start; shape = []; strides = [] })
of_no_axes RowMajor start = ap (λ place. place ∷ []) (no_step (pos (start + 0)) (pos 0))
of_no_axes ColumnMajor start = ap (λ place. place ∷ []) (no_step (pos (start + 0)) (pos 0))

none_or_all : (order : Order) (view : View) (rows : List Row) (none : Bool) → nat_eq (size view.shape) 0 ≡ none
    → rows_places rows ≡ view_places order view → rows_places (cond none [] rows) ≡ view_places order view
none_or_all order view rows true e all = sym (no_places order view (eqb-true (size view.shape) 0 e))
none_or_all order view rows false e all = all

by_axes : (order : Order) (start : ℕ) (shape : List ℕ) (strides : List ℤ)
    → IsView (record { start = start; shape = shape; strides = strides })
    → rows_places (view_rows order (record { start = start; shape = shape; strides = strides }))
    ≡ view_places order (record { start = start; shape = shape; strides = strides })
by_axes order start [] [] v = of_no_axes order start
by_axes order start [] (stride ∷ strides) v = absurd (omega (arith, v.valid.same_count))
by_axes order start (len ∷ lens) strides v =
    let view : View = record { start = start; shape = len ∷ lens; strides = strides } in
    let ends = ends_of_some order (len ∷ lens) 1 (omega arith) in
    let steps = ends_of_some order strides (pos 0) (omega (arith, v.valid.same_count)) in
    let starts = view_places order (slower_view order view) in
    none_or_all order view (map (row_at order view) starts) (nat_eq (size (len ∷ lens)) 0) refl
    (from_places order view starts (places_from_0 order (IsView-others order ends steps v)) ∙ sym (places-others order ends steps v))

-- one after another they are the places of the view
pub rows_places-view_rows : (order : Order) {view : View} → IsView view → rows_places (view_rows order view) ≡ view_places order view
rows_places-view_rows order {view} v = by_axes order view.start view.shape view.strides v

-- each row has a place
some_of_size : (order : Order) (shape : List ℕ) → 0 < size shape → 0 < fastest_item order shape 1
some_of_size RowMajor [] some = omega arith
some_of_size ColumnMajor [] some = omega arith
some_of_size order (len ∷ lens) some =
    factor (fastest_item order (len ∷ lens) 1) (size (slower_items order (len ∷ lens)))
    (omega (arith, size-others (ends_of_some order (len ∷ lens) 1 (omega arith))))
  where
    factor : (a b : ℕ) → 0 < a * b → 0 < a
    factor zero b h = absurd (omega arith)
    factor (suc a) b h = omega arith

pub some_in_each_row : (order : Order) (view : View) → All (λ row. 0 < row.len) (view_rows order view)
some_in_each_row order view = by (nat_eq (size view.shape) 0) refl
  where
    by : (none : Bool) → nat_eq (size view.shape) 0 ≡ none
        → All (λ row. 0 < row.len) (cond none [] (map (row_at order view) (view_places order (slower_view order view))))
    by true e = All-nil (λ row. 0 < row.len)
    by false e =
        let some = some_of_size order view.shape (omega (arith, pos_of_ne-zero (eqb-false (size view.shape) 0 e))) in
        All-map (λ row. 0 < row.len) (row_at order view) (view_places order (slower_view order view)) (λ k d below. some)

-- a row as a view of one axis has its places
pub places-row_view : (row : Row) → 0 < row.len → IsView (row_view row)
    → view_places RowMajor (row_view row) ≡ row_places row.start row.stride row.len
places-row_view row some v = sym (rows_places-view_rows RowMajor v) ∙ by (nat_eq (row.len * 1) 0) refl
  where
    by : (none : Bool) → nat_eq (row.len * 1) 0 ≡ none → rows_places (cond none []
        (map (row_at RowMajor (row_view row)) (view_places RowMajor (slower_view RowMajor (row_view row)))))
        ≡ row_places row.start row.stride row.len
    by true e = absurd (omega (arith, some, eqb-true (row.len * 1) 0 e))
    by false e =
        append-nil (row_places (row.start + 0) row.stride row.len)
        ∙ ap (λ start. row_places start row.stride row.len) (let same : row.start + 0 ≡ row.start = omega arith in same)

-- so there are as many rows as places, or fewer
pub no_more : (rows : List Row) → All (λ row. 0 < row.len) rows → length rows ≤ length (rows_places rows)
no_more [] some = omega arith
no_more (row ∷ rows) some =
    let first = row_places row.start row.stride row.len in
    omega (
      arith,
      All-head (λ row. 0 < row.len) row rows some,
      no_more rows (All-tail (λ row. 0 < row.len) row rows some),
      length-append first (rows_places rows),
      length-row_places row.start row.stride row.len,
    )

pub few_rows : (order : Order) {view : View} → IsView view → length (view_rows order view) ≤ limit
few_rows order {view} v =
    omega (
      arith,
      no_more (view_rows order view) (some_in_each_row order view),
      ap length (rows_places-view_rows order v),
      length-view_places order view,
      size_le_nonzero_size view.shape,
      v.valid.size_fits,
    )

-- and where a view lies within data, each place of each row does
pub rows_lie_within : (len : ℕ) (order : Order) {view : View} → IsView view → LiesWithin len view
    → All (λ row. All (IsInBounds len) (row_places row.start row.stride row.len)) (view_rows order view)
rows_lie_within len order {view} v within =
    All-rows_places (IsInBounds len) (view_rows order view)
    (subst (All (IsInBounds len)) (sym (rows_places-view_rows order v)) (places_lie_within len order view within))

-- ---- rows by their number
-- what is left from the one of a number on begins with it
pub left_from : {X : Type 0} (xs : List X) (number : ℕ) {x : X} → Some x ≡ slice_get xs number → drop number xs ≡ x ∷ drop (number + 1) xs
left_from xs number {x} e =
    drop-cons xs number x (slice_get_within xs number x (sym e))
    ∙ ap (λ first. first ∷ drop (suc number) xs) (get_or_from_slice_get xs number x x (sym e))
    ∙ ap (λ n. x ∷ drop n xs) (sym (add-one number))

-- and nothing is left where there is none
pub none_left_from : {X : Type 0} (xs : List X) (number : ℕ) → None ≡ slice_get xs number → drop number xs ≡ []
none_left_from [] number e = drop-nil number
none_left_from (x ∷ xs) zero e = absurd (none-some x e)
none_left_from (x ∷ xs) (suc number) e = none_left_from xs number e
