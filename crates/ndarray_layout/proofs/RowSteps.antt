-- What is left of rows of places, from one place to the next.
use Rattle.std.proofs.Common.{◌≡◌, ℕ, zero, suc, ◌+◌, ◌-◌, ◌<◌, ◌≤◌, ◌^◌, ℤ, pos, negsuc, ◌+ℤ◌, ◌*ℤ◌, List, [], ◌∷◌, ◌++◌}
use Rattle.std.proofs.Common.{add-one, append_assoc, drop, length, map, refl, sym, ap, subst, ◌∙◌, arith, length-append}
use Rattle.std.specs.List.{All, range_with_len}
use Rattle.std.proofs.lemmas.Int.{ints}
use Rattle.std.proofs.lemmas.List.Elements.{All-head, All-nil, All-tail}
use Rattle.nd_base.proofs.Laws.Definitions.{IsInBounds, limit}
use Rattle.ndarray_layout.specs.declared.strided.rows.Row.{Row}
use Rattle.ndarray_layout.specs.Rows.{row_places, rows_places}
use Rattle.ndarray_layout.specs.PlacesLeft.{ArePlacesLeft, places_after}
use Rattle.ndarray_layout.proofs.ByRows.{row_from}
use Rattle.ndarray_layout.specs.View.{IsPlace}
use Rattle.ndarray_layout.proofs.Laws.Rows.{All-first_row, get_or-row_places, length-row_places, no_step, one_more_step}

-- ---- a row
-- from one place further on
one_further : (first stride : ℤ) (a n : ℕ) → map (λ i. first +ℤ (pos i *ℤ stride)) (range_with_len (a + 1) n)
    ≡ map (λ i. (first +ℤ stride) +ℤ (pos i *ℤ stride)) (range_with_len a n)
one_further first stride a zero = refl
one_further first stride a (suc n) =
    let here : first +ℤ (pos (a + 1) *ℤ stride) ≡ (first +ℤ stride) +ℤ (pos a *ℤ stride) = omega (arith, ints, one_more_step a stride) in
    rw (here, one_further first stride (a + 1) n) refl

-- the first place, and then the row from the next one on
pub row_first : (first stride : ℤ) (n : ℕ) → row_from first stride (suc n) ≡ first ∷ row_from (first +ℤ stride) stride n
row_first first stride n =
    ap (λ z. z ∷ map (λ i. first +ℤ (pos i *ℤ stride)) (range_with_len (0 + 1) n)) (no_step first stride)
    ∙ ap (λ places. first ∷ places) (one_further first stride 0 n)

row_of_some : (first stride : ℤ) (n : ℕ) → 0 < n → row_from first stride n ≡ first ∷ row_from (first +ℤ stride) stride (n - 1)
row_of_some first stride n some =
    let more : n ≡ suc (n - 1) = omega arith in
    ap (row_from first stride) more ∙ row_first first stride (n - 1)

-- what is appended place by place
pub appended : (old : List ℤ) {now new : List ℤ} (row : List ℤ) (place : ℤ) {more : List ℤ} → new ≡ now ++ place ∷ [] → now ≡ old ++ row
    → more ≡ row ++ place ∷ [] → new ≡ old ++ more
appended old row place e f g = e ∙ ap (λ xs. xs ++ place ∷ []) f ∙ append_assoc old row (place ∷ []) ∙ ap (λ xs. old ++ xs) (sym g)

pub bounds_of_place : (z : ℤ) → IsInBounds (2 ^ 63) z → IsPlace z
bounds_of_place (pos n) in_bounds = (omega (arith, ints), omega (arith, ints))
bounds_of_place (negsuc n) in_bounds = absurd in_bounds

-- each place of a row is a number of an `isize`, and so is the first one
pub place_bounds : (start : ℕ) (stride : ℤ) (len i : ℕ) → All (IsInBounds (2 ^ 63)) (row_places start stride len) → i < len
    → IsPlace (pos start +ℤ (pos i *ℤ stride))
place_bounds start stride len i in_bounds below =
    bounds_of_place (pos start +ℤ (pos i *ℤ stride))
    (subst (IsInBounds (2 ^ 63)) (get_or-row_places start stride len i (pos 0) below)
    (in_bounds i (pos 0) (omega (arith, length-row_places start stride len))))

pub start_bound : (start : ℕ) (stride : ℤ) (len : ℕ) → All (IsInBounds (2 ^ 63)) (row_places start stride len) → 0 < len → start ≤ limit
start_bound start stride len in_bounds some =
    omega (arith, ints, (place_bounds start stride len 0 in_bounds some).1, no_step (pos start) stride)

-- ---- rows
length-rows : (row : Row) (rows : List Row) → length (rows_places (row ∷ rows)) ≡ row.len + length (rows_places rows)
length-rows row rows =
    length-append (row_places row.start row.stride row.len) (rows_places rows)
    ∙ ap (λ n. n + length (rows_places rows)) (length-row_places row.start row.stride row.len)

-- the first of rows, and the others
pub record IsFirstRow (all : List Row) (row : Row) (others : List Row) : Type 0 where
  pub is : all ≡ row ∷ others

module _ {all : List Row} {row : Row} {others : List Row} (f : IsFirstRow all row others) where
  pub length-first : length (rows_places all) ≡ row.len + length (rows_places others)
  length-first = ap (λ rows. length (rows_places rows)) f.is ∙ length-rows row others

  pub in_bounds-first : All (IsInBounds (2 ^ 63)) (rows_places all)
      → All (IsInBounds (2 ^ 63)) (row_places row.start row.stride row.len) × All (IsInBounds (2 ^ 63)) (rows_places others)
  in_bounds-first in_bounds =
      All-first_row (IsInBounds (2 ^ 63)) row others (subst (λ rows. All (IsInBounds (2 ^ 63)) (rows_places rows)) f.is in_bounds)

  -- with the places of the first one appended, those of the others are left
  pub append-first : (now : List ℤ) {new whole : List ℤ} → new ≡ now ++ row_places row.start row.stride row.len
      → now ++ rows_places all ≡ whole → new ++ rows_places others ≡ whole
  append-first now e so_far =
      ap (λ xs. xs ++ rows_places others) e
      ∙ append_assoc now (row_places row.start row.stride row.len) (rows_places others)
      ∙ ap (λ places. now ++ places) (sym (ap rows_places f.is))
      ∙ so_far

rest_of_row : (first stride : ℤ) (left : ℕ) → drop 1 (row_from first stride (left + 1)) ≡ row_from (first +ℤ stride) stride left
rest_of_row first stride left =
    ap (λ n. drop 1 (row_from first stride n)) (add-one left) ∙ ap (drop 1) (row_first first stride left)

pub after : (place : ℕ) (stride : ℤ) (left : ℕ) (rows : List Row)
    → places_after place stride left rows ≡ row_from (pos place +ℤ stride) stride left ++ rows_places rows
after place stride left rows = ap (λ row. row ++ rows_places rows) (rest_of_row (pos place) stride left)

-- ---- where places are left
module _ {place left : ℕ} {stride : ℤ} {rows : List Row} (l : ArePlacesLeft place stride left rows) where
  -- the next one lies a stride on, if one is left in the row
  first_of_row : 0 < left → places_after place stride left rows
      ≡ (pos place +ℤ stride) ∷ (row_from ((pos place +ℤ stride) +ℤ stride) stride (left - 1) ++ rows_places rows)
  first_of_row some =
      after place stride left rows ∙ ap (λ row. row ++ rows_places rows) (row_of_some (pos place +ℤ stride) stride left some)

  pub next_in_bounds : 0 < left → IsInBounds (2 ^ 63) (pos place +ℤ stride)
  next_in_bounds some =
      All-head (IsInBounds (2 ^ 63)) (pos place +ℤ stride)
      (row_from ((pos place +ℤ stride) +ℤ stride) stride (left - 1) ++ rows_places rows)
      (subst (All (IsInBounds (2 ^ 63))) (first_of_row some) l.in_bounds)

  pub steps_on : {next : ℕ} → 0 < left → pos next ≡ pos place +ℤ stride
      → places_after place stride left rows ≡ pos next ∷ places_after next stride (left - 1) rows
  steps_on {next} some at =
      first_of_row some
      ∙ ap (λ z. z ∷ (row_from (z +ℤ stride) stride (left - 1) ++ rows_places rows)) (sym at)
      ∙ ap (λ places. pos next ∷ places) (sym (after next stride (left - 1) rows))

  pub left_after_step : {next : ℕ} → 0 < left → pos next ≡ pos place +ℤ stride → ArePlacesLeft next stride (left - 1) rows
  left_after_step {next} some at = record {
    here = omega (arith, ints, (bounds_of_place (pos next) (subst (IsInBounds (2 ^ 63)) (sym at) (next_in_bounds some))).1);
    in_bounds = All-tail (IsInBounds (2 ^ 63)) (pos next) (places_after next stride (left - 1) rows)
        (subst (All (IsInBounds (2 ^ 63))) (steps_on some at) l.in_bounds);
    some = l.some;
    fits = omega (arith, l.fits, ap length (steps_on some at));
  }

  -- else it begins the next row
  pub some_in_row : {row : Row} {others : List Row} → rows ≡ row ∷ others → 0 < row.len
  some_in_row {row} {others} e = All-head (λ row. 0 < row.len) row others (subst (All (λ row. 0 < row.len)) e l.some)

  pub row_begins : {row : Row} {others : List Row} {step : ℤ} → left ≡ 0 → rows ≡ row ∷ others → row.stride ≡ step
      → places_after place stride left rows ≡ pos row.start ∷ places_after row.start step (row.len - 1) others
  row_begins {row} {others} none e steps =
      ap (λ n. places_after place stride n rows) none
      ∙ ap rows_places e
      ∙ ap (λ places. places ++ rows_places others) (row_of_some (pos row.start) row.stride row.len (some_in_row e))
      ∙ ap (λ places. pos row.start ∷ places) (sym (after row.start row.stride (row.len - 1) others))
      ∙ ap (λ s. pos row.start ∷ places_after row.start s (row.len - 1) others) steps

  pub left_in_row : {row : Row} {others : List Row} {step : ℤ} → left ≡ 0 → rows ≡ row ∷ others → row.stride ≡ step
      → ArePlacesLeft row.start step (row.len - 1) others
  left_in_row {row} {others} {step} none e steps =
      let all = subst (All (IsInBounds (2 ^ 63))) (row_begins none e steps) l.in_bounds in
      let rest = places_after row.start step (row.len - 1) others in
      record {
        here = omega (arith, ints, (bounds_of_place (pos row.start) (All-head (IsInBounds (2 ^ 63)) (pos row.start) rest all)).1);
        in_bounds = All-tail (IsInBounds (2 ^ 63)) (pos row.start) rest all;
        some = All-tail (λ row. 0 < row.len) row others (subst (All (λ row. 0 < row.len)) e l.some);
        fits = omega (arith, l.fits, ap length (row_begins none e steps));
      }

  pub left_after_end : {others : List Row} → left ≡ 0 → others ≡ [] → ArePlacesLeft place stride left others
  left_after_end {others} none end =
      let nothing : places_after place stride left others ≡ [] = ap (λ n. places_after place stride n others) none ∙ ap rows_places end in
      record {
        here = l.here;
        in_bounds = subst (All (IsInBounds (2 ^ 63))) (sym nothing) (All-nil (IsInBounds (2 ^ 63)));
        some = subst (All (λ row. 0 < row.len)) (sym end) (All-nil (λ row. 0 < row.len));
        fits = omega (arith, ap length nothing);
      }
