-- What is left of rows of places after several places at once.
use Rattle.std.proofs.Common.{◌≡◌, ℕ, zero, suc, ◌+◌, ◌-◌, ◌*◌, ◌<◌, ◌≤◌, ◌^◌, ℤ, pos, ◌+ℤ◌, ◌*ℤ◌, List, [], ◌∷◌, ◌++◌}
use Rattle.std.proofs.Common.{drop, length, refl, sym, ap, subst, ◌∙◌, arith, length-append, length-drop}
use Rattle.std.specs.List.{All}
use Rattle.std.proofs.Math.Seq.{drop-append-add, drop-nil}
use Rattle.std.proofs.lemmas.Int.{ints}
use Rattle.std.proofs.lemmas.List.{drop-append-le, drop-drop, drop_at}
use Rattle.std.proofs.lemmas.List.Elements.{All-drop, All-head, All-tail}
use Rattle.nd_base.proofs.Laws.Definitions.{IsInBounds, limit, magnitude}
use Rattle.nd_base.proofs.Laws.Signed.{magnitude_from}
use Rattle.ndarray_layout.specs.declared.strided.rows.Row.{Row}
use Rattle.ndarray_layout.specs.Rows.{row_places, rows_places}
use Rattle.ndarray_layout.specs.PlacesLeft.{ArePlacesLeft, places_after}
use Rattle.ndarray_layout.proofs.ByRows.{row_from}
use Rattle.ndarray_layout.specs.View.{IsPlace}
use Rattle.ndarray_layout.proofs.RowSteps.{after, bounds_of_place, left_after_step, next_in_bounds}
use Rattle.ndarray_layout.proofs.RowSteps.{place_bounds, row_first, start_bound}
use Rattle.ndarray_layout.proofs.Laws.Rows.{All-first_row, length-row_places, no_step, one_more_step}

-- ---- of a row
-- after so many places it goes on as the row from there
pub row_drop : (k n : ℕ) (first stride : ℤ) → k ≤ n
    → drop k (row_from first stride n) ≡ row_from (first +ℤ (pos k *ℤ stride)) stride (n - k)
row_drop zero n first stride few =
    let all : n ≡ n - 0 = omega arith in
    ap (row_from first stride) all ∙ ap (λ z. row_from z stride (n - 0)) (sym (no_step first stride))
row_drop (suc k) zero first stride few = absurd (omega arith)
row_drop (suc k) (suc n) first stride few =
    let more : suc k ≡ k + 1 = omega arith in
    let fewer : n - k ≡ suc n - suc k = omega arith in
    let there : (first +ℤ stride) +ℤ (pos k *ℤ stride) ≡ first +ℤ (pos (suc k) *ℤ stride) =
    omega (arith, ints, ap (λ i. pos i *ℤ stride) more, one_more_step k stride) in
    ap (drop (suc k)) (row_first first stride n)
    ∙ row_drop k n (first +ℤ stride) stride (omega arith)
    ∙ ap (λ z. row_from z stride (n - k)) there
    ∙ ap (row_from (first +ℤ (pos (suc k) *ℤ stride)) stride) fewer

pub length-row : (first stride : ℤ) (n : ℕ) → length (row_from first stride n) ≡ n
length-row first stride zero = refl
length-row first stride (suc n) =
    ap length (row_first first stride n) ∙ ap suc (length-row (first +ℤ stride) stride n)

-- ---- of rows
-- those of a length, after as many places as so many of them have
pub drop_rows : (len k : ℕ) (rows : List Row) → All (λ row. row.len ≡ len) rows
    → drop (k * len) (rows_places rows) ≡ rows_places (drop k rows)
drop_rows len zero rows all =
    let none : 0 * len ≡ 0 = omega arith in
    ap (λ n. drop n (rows_places rows)) none
drop_rows len (suc k) [] all = drop-nil (suc k * len)
drop_rows len (suc k) (row ∷ rows) all =
    let first = row_places row.start row.stride row.len in
    let same : suc k * len ≡ length first + k * len =
    omega (arith, length-row_places row.start row.stride row.len, All-head (λ row. row.len ≡ len) row rows all) in
    ap (λ n. drop n (first ++ rows_places rows)) same
    ∙ drop-append-add first (rows_places rows) (k * len)
    ∙ drop_rows len k rows (All-tail (λ row. row.len ≡ len) row rows all)

-- ---- of a row that has begun, and of rows
pub row_rests : (place stride : ℤ) (left count : ℕ) (rest : List ℤ) → count ≤ left
    → drop count (row_from (place +ℤ stride) stride left ++ rest)
    ≡ row_from ((place +ℤ (pos count *ℤ stride)) +ℤ stride) stride (left - count) ++ rest
row_rests place stride left count rest few =
    let there : (place +ℤ stride) +ℤ (pos count *ℤ stride) ≡ (place +ℤ (pos count *ℤ stride)) +ℤ stride = omega (arith, ints) in
    drop-append-le count (row_from (place +ℤ stride) stride left) rest (omega (arith, few, length-row (place +ℤ stride) stride left))
    ∙ ap (λ xs. xs ++ rest) (row_drop count left (place +ℤ stride) stride few ∙ ap (λ z. row_from z stride (left - count)) there)

-- so many places are before a row and the others, and of its places so many are left out: some, and not all
pub record EntersRow (places : List ℤ) (row : Row) (others : List Row) (before r : ℕ) : Type 0 where
  pub begins : drop before places ≡ rows_places (row ∷ others)
  pub some : 0 < r
  pub few : r < row.len

module _ {place left : ℕ} {stride : ℤ} {rows : List Row} (l : ArePlacesLeft place stride left rows) where
  -- what an iterator has after so many places
  pub left_later : {place' left' : ℕ} {stride' : ℤ} {rows' : List Row} (count : ℕ) → place' ≤ limit → All (λ row. 0 < row.len) rows'
      → drop count (places_after place stride left rows) ≡ places_after place' stride' left' rows'
      → ArePlacesLeft place' stride' left' rows'
  left_later {place'} {left'} {stride'} {rows'} count here some e = record {
    here = here;
    in_bounds = subst (All (IsInBounds (2 ^ 63))) e
        (All-drop (IsInBounds (2 ^ 63)) count (places_after place stride left rows) l.in_bounds);
    some = some;
    fits = omega (arith, l.fits, ap length e, length-drop count (places_after place stride left rows));
  }

  -- fewer than are left in the row
  pub within_row : {place' : ℕ} (count : ℕ) → count ≤ left → pos place' ≡ pos place +ℤ (pos count *ℤ stride)
      → drop count (places_after place stride left rows) ≡ places_after place' stride (left - count) rows
  within_row {place'} count few at =
      ap (drop count) (after place stride left rows)
      ∙ row_rests (pos place) stride left count (rows_places rows) few
      ∙ ap (λ z. row_from (z +ℤ stride) stride (left - count) ++ rows_places rows) (sym at)
      ∙ sym (after place' stride (left - count) rows)

  -- or more
  pub past_row : (count : ℕ) → left ≤ count → drop count (places_after place stride left rows) ≡ drop (count - left) (rows_places rows)
  past_row count more =
      let row = row_from (pos place +ℤ stride) stride left in
      let all : count ≡ length row + (count - left) = omega (arith, more, length-row (pos place +ℤ stride) stride left) in
      ap (drop count) (after place stride left rows)
      ∙ ap (λ n. drop n (row ++ rows_places rows)) all
      ∙ drop-append-add row (rows_places rows) (count - left)

  -- where none is left of the row, those of the rows are
  pub left_ended : ArePlacesLeft place stride 0 rows
  left_ended =
      let none : left - left ≡ 0 = omega arith in
      left_later left l.here l.some (past_row left (omega arith) ∙ ap (λ n. drop n (rows_places rows)) none)

  -- and those after a row of them
  module _ {others : List Row} {row : Row} (none : left ≡ 0) (first : rows ≡ row ∷ others) where
    pub row_first_of : places_after place stride left rows
        ≡ row_places row.start row.stride row.len ++ places_after place stride left others
    row_first_of =
        ap (λ n. places_after place stride n rows) none
        ∙ ap rows_places first
        ∙ ap (λ n. row_places row.start row.stride row.len ++ places_after place stride n others) (sym none)

    pub left_after_row : ArePlacesLeft place stride left others
    left_after_row = left_later row.len l.here
        (All-tail (λ row. 0 < row.len) row others (subst (All (λ row. 0 < row.len)) first l.some))
        (ap (drop row.len) row_first_of
        ∙ drop_at (row_places row.start row.stride row.len) (places_after place stride left others) row.len
        (length-row_places row.start row.stride row.len))

  -- else a row has begun
  module _ {row : Row} {others : List Row} {before r : ℕ} (i : EntersRow (places_after place stride left rows) row others before r) where
    open i use {begins, some, few}

    in_bounds : All (IsInBounds (2 ^ 63)) (row_places row.start row.stride row.len)
    in_bounds = (All-first_row (IsInBounds (2 ^ 63)) row others (subst (All (IsInBounds (2 ^ 63))) begins
        (All-drop (IsInBounds (2 ^ 63)) before (places_after place stride left rows) l.in_bounds))).0

    pub start_fits : row.start ≤ limit
    start_fits = start_bound row.start row.stride row.len in_bounds (omega (arith, few))

    pub place_fits : IsPlace (pos row.start +ℤ (pos (r - 1) *ℤ row.stride))
    place_fits = place_bounds row.start row.stride row.len (r - 1) in_bounds (omega (arith, few))

    pub coordinate_fits : r ≤ limit
    coordinate_fits = omega (
      arith,
      few,
      length-append (row_places row.start row.stride row.len) (rows_places others),
      length-row_places row.start row.stride row.len,
      ap length begins,
      length-drop before (places_after place stride left rows),
      l.fits,
    )

    pub row_entered : {place' : ℕ} {step : ℤ} → pos place' ≡ pos row.start +ℤ (pos (r - 1) *ℤ row.stride) → row.stride ≡ step
        → drop (before + r) (places_after place stride left rows) ≡ places_after place' step (row.len - r) others
    row_entered {place'} at steps =
        let last : r ≡ r - 1 + 1 = omega (arith, some) in
        let there : pos row.start +ℤ (pos r *ℤ row.stride) ≡ pos place' +ℤ row.stride =
        omega (arith, ints, at, ap (λ i. pos i *ℤ row.stride) last, one_more_step (r - 1) row.stride) in
        sym (drop-drop r before (places_after place stride left rows))
        ∙ ap (drop r) begins
        ∙ drop-append-le r (row_places row.start row.stride row.len) (rows_places others)
        (omega (arith, few, length-row_places row.start row.stride row.len))
        ∙ ap (λ xs. xs ++ rows_places others) (row_drop r row.len (pos row.start) row.stride (omega (arith, few)))
        ∙ ap (λ z. row_from z row.stride (row.len - r) ++ rows_places others) there
        ∙ sym (after place' row.stride (row.len - r) others)
        ∙ ap (λ s. places_after place' s (row.len - r) others) steps

    pub left_entered : {place' : ℕ} {step : ℤ} → All (λ row. 0 < row.len) others
        → pos place' ≡ pos row.start +ℤ (pos (r - 1) *ℤ row.stride) → row.stride ≡ step
        → ArePlacesLeft place' step (row.len - r) others
    left_entered some_of at steps = left_later (before + r) (omega (arith, ints, at, place_fits.1)) some_of (row_entered at steps)

-- each place of the row that has begun lies in bounds
pub place_in_row : (count : ℕ) {place left : ℕ} {stride : ℤ} {rows : List Row} → ArePlacesLeft place stride left rows → count ≤ left
    → IsPlace (pos place +ℤ (pos count *ℤ stride))
place_in_row zero {place} {left} {stride} l few =
    let here = no_step (pos place) stride in
    (omega (arith, ints, here), omega (arith, ints, l.here, here))
place_in_row (suc count) {place} {left} {stride} l few =
    let some : 0 < left = omega arith in
    let next = bounds_of_place (pos place +ℤ stride) (next_in_bounds l some) in
    let at = magnitude_from (pos place +ℤ stride) next.0 in
    let there = place_in_row count (left_after_step l some at) (omega arith) in
    let more : suc count ≡ count + 1 = omega arith in
    let same : pos (magnitude (pos place +ℤ stride)) +ℤ (pos count *ℤ stride) ≡ pos place +ℤ (pos (suc count) *ℤ stride) =
    omega (arith, ints, at, ap (λ i. pos i *ℤ stride) more, one_more_step count stride) in
    (omega (arith, ints, same, there.0), omega (arith, ints, same, there.1))
