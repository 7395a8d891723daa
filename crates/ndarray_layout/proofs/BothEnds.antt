-- What is left of rows of places from both ends: without the last ones, and with a row that has begun at the back.
use Rattle.std.proofs.Common.{◌≡◌, ℕ, zero, suc, ◌+◌, ◌-◌, ◌*◌, ◌/◌, ◌%◌, ◌<◌, ◌≤◌, ◌^◌, ℤ, pos, ◌+ℤ◌, ◌*ℤ◌, Bool, true, false, cond}
use Rattle.std.proofs.Common.{inl, inr, List, [], ◌∷◌, ◌++◌, append_assoc, append-nil, drop, take, length, min, nat_eq, refl, sym, ap}
use Rattle.std.proofs.Common.{subst, ◌∙◌, arith, eq-eqb, eqb-true, pos_of_ne-zero, length-append, length-drop, length-take}
use Rattle.std.specs.List.{All}
use Rattle.std.proofs.Math.Nat.{min-le_right, mul-le-mul_right}
use Rattle.std.proofs.Math.Seq.{drop-append-add, drop-append_seam, take-append-add, take-append_seam}
use Rattle.std.proofs.lemmas.Bool.{cases_lt, eqb-false}
use Rattle.std.proofs.lemmas.Grind.{flat_map-append}
use Rattle.std.proofs.lemmas.List.{drop-append-le, drop_all, length-take-le, take-append-le, take-take}
use Rattle.std.proofs.lemmas.List.Elements.{All-append, All-cons, All-drop, All-head, All-nil, All-tail, All-take}
use Rattle.std.proofs.lemmas.List.FromFn.{take-map-range_with_len}
use Rattle.std.proofs.lemmas.Nat.{div-add-mod', mod_below}
use Rattle.nd_base.proofs.Laws.Definitions.{IsInBounds, limit}
use Rattle.ndarray_layout.specs.declared.strided.rows.Row.{Row}
use Rattle.ndarray_layout.specs.PlacesLeft.{ArePlacesLeft, places_after, rows_and}
use Rattle.ndarray_layout.specs.Rows.{row_places, rows_places}
use Rattle.ndarray_layout.specs.View.{IsPlace}
use Rattle.ndarray_layout.proofs.ByRows.{row_from}
use Rattle.ndarray_layout.proofs.NumberedRows.{lesser}
use Rattle.ndarray_layout.proofs.LaterPlaces.{EntersRow, drop_rows, length-row, past_row}
use Rattle.ndarray_layout.proofs.RowSteps.{after, place_bounds}
use Rattle.ndarray_layout.proofs.Laws.Rows.{length-row_places, no_more, row_more}

-- ---- lists
module _ {X : Type 0} where
  -- what holds of all items holds of those of each part
  pub All-front : (P : X → Type 0) (xs ys : List X) → All P (xs ++ ys) → All P xs
  All-front P xs ys all = subst (All P) (take-append_seam xs ys) (All-take P (length xs) (xs ++ ys) all)

  pub All-back : (P : X → Type 0) (xs ys : List X) → All P (xs ++ ys) → All P ys
  All-back P xs ys all = subst (All P) (drop-append_seam xs ys) (All-drop P (length xs) (xs ++ ys) all)

  pub All-last : (P : X → Type 0) (xs : List X) (x : X) → All P (xs ++ x ∷ []) → P x
  All-last P xs x all = All-head P x [] (All-back P xs (x ∷ []) all)

  -- without so many at the end: fewer than the second part has, or more
  pub take_within : (xs ys : List X) (count : ℕ) → count ≤ length ys
      → take (length (xs ++ ys) - count) (xs ++ ys) ≡ xs ++ take (length ys - count) ys
  take_within xs ys count few =
      let all : length (xs ++ ys) - count ≡ length xs + (length ys - count) = omega (arith, few, length-append xs ys) in
      ap (λ n. take n (xs ++ ys)) all ∙ take-append-add xs ys (length ys - count)

  pub take_past : (xs ys : List X) (count : ℕ) → length ys ≤ count
      → take (length (xs ++ ys) - count) (xs ++ ys) ≡ take (length xs - (count - length ys)) xs
  take_past xs ys count more =
      let all : length (xs ++ ys) - count ≡ length xs - (count - length ys) = omega (arith, more, length-append xs ys) in
      ap (λ n. take n (xs ++ ys)) all ∙ take-append-le (length xs - (count - length ys)) xs ys (omega arith)

-- ---- a row
pub row_take : (k n : ℕ) (first stride : ℤ) → k ≤ n → take k (row_from first stride n) ≡ row_from first stride k
row_take k n first stride few = take-map-range_with_len (λ i. first +ℤ (pos i *ℤ stride)) 0 n k few

-- ---- rows and a last one
module _ (rows : List Row) (last : Row) where
  pub rows_places-and : rows_places (rows_and rows last) ≡ rows_places rows ++ row_places last.start last.stride last.len
  rows_places-and =
      flat_map-append (λ row. row_places row.start row.stride row.len) rows (cond (nat_eq last.len 0) [] (last ∷ []))
      ∙ by (nat_eq last.len 0) refl
    where
      by : (none : Bool) → nat_eq last.len 0 ≡ none
          → rows_places rows ++ rows_places (cond none [] (last ∷ [])) ≡ rows_places rows ++ row_places last.start last.stride last.len
      by true e = ap (λ n. rows_places rows ++ row_places last.start last.stride n) (sym (eqb-true last.len 0 e))
      by false e = ap (λ xs. rows_places rows ++ xs) (append-nil (row_places last.start last.stride last.len))

  pub and_none : last.len ≡ 0 → rows_and rows last ≡ rows
  and_none none = ap (λ b. rows ++ cond b [] (last ∷ [])) (eq-eqb last.len 0 none) ∙ append-nil rows

  pub All-and : All (λ row. 0 < row.len) rows → All (λ row. 0 < row.len) (rows_and rows last)
  All-and all = by (nat_eq last.len 0) refl
    where
      by : (none : Bool) → nat_eq last.len 0 ≡ none → All (λ row. 0 < row.len) (rows ++ cond none [] (last ∷ []))
      by true e = All-append (λ row. 0 < row.len) rows [] all (All-nil (λ row. 0 < row.len))
      by false e = All-append (λ row. 0 < row.len) rows (last ∷ []) all
          (All-cons (λ row. 0 < row.len) last [] (pos_of_ne-zero (eqb-false last.len 0 e)) (All-nil (λ row. 0 < row.len)))

  pub All-rows : (P : Row → Type 0) → All P (rows_and rows last) → All P rows
  All-rows P all = All-front P rows (cond (nat_eq last.len 0) [] (last ∷ [])) all

-- ---- rows of one length
pub length-rows_of_len : (len : ℕ) (rows : List Row) → All (λ row. row.len ≡ len) rows → length (rows_places rows) ≡ length rows * len
length-rows_of_len len [] all = omega arith
length-rows_of_len len (row ∷ rows) all = omega (
  arith,
  length-append (row_places row.start row.stride row.len) (rows_places rows),
  length-row_places row.start row.stride row.len,
  All-head (λ row. row.len ≡ len) row rows all,
  length-rows_of_len len rows (All-tail (λ row. row.len ≡ len) row rows all),
)

take_rows : (len k : ℕ) (rows : List Row) → All (λ row. row.len ≡ len) rows → take (k * len) (rows_places rows) ≡ rows_places (take k rows)
take_rows len zero rows all =
    let none : 0 * len ≡ 0 = omega arith in
    ap (λ n. take n (rows_places rows)) none
take_rows len (suc k) [] all = take_none (suc k * len)
  where
    take_none : (n : ℕ) → take n (rows_places []) ≡ []
    take_none zero = refl
    take_none (suc n) = refl
take_rows len (suc k) (row ∷ rows) all =
    let first = row_places row.start row.stride row.len in
    let same : suc k * len ≡ length first + k * len =
    omega (arith, length-row_places row.start row.stride row.len, All-head (λ row. row.len ≡ len) row rows all) in
    ap (λ n. take n (first ++ rows_places rows)) same
    ∙ take-append-add first (rows_places rows) (k * len)
    ∙ ap (λ xs. first ++ xs) (take_rows len k rows (All-tail (λ row. row.len ≡ len) row rows all))

-- those of which some are left out, after so many whole ones so many places of a row
pub last_len : (len q : ℕ) (rows : List Row) → All (λ row. row.len ≡ len) rows → (others : List Row) (row : Row)
    → take (length rows - q) rows ≡ others ++ row ∷ [] → row.len ≡ len
last_len len q rows all others row is = All-last (λ row. row.len ≡ len) others row
    (subst (All (λ row. row.len ≡ len)) is (All-take (λ row. row.len ≡ len) (length rows - q) rows all))

pub first_len : (len q : ℕ) (rows : List Row) → All (λ row. row.len ≡ len) rows → {others : List Row} {row : Row}
    → drop q rows ≡ row ∷ others → row.len ≡ len
first_len len q rows all {others} {row} is = All-head (λ row. row.len ≡ len) row others
    (subst (All (λ row. row.len ≡ len)) is (All-drop (λ row. row.len ≡ len) q rows all))

pub some_len : (len count : ℕ) (rows : List Row) → All (λ row. row.len ≡ len) rows → count < length (rows_places rows) → 0 < len
some_len len count rows all below = by len (length-rows_of_len len rows all)
  where
    by : (len : ℕ) → length (rows_places rows) ≡ length rows * len → 0 < len
    by zero no_len = absurd (omega (arith, below, no_len))
    by (suc len) some = omega arith

module _ (len count q r : ℕ) (rows : List Row) (all : All (λ row. row.len ≡ len) rows) (below : count < length (rows_places rows))
    (e : count ≡ q * len + r) where
  pub whole_rows : q < length rows
  whole_rows = elim (cases_lt q (length rows)) [
    | inl few ↦ few
    | inr many ↦ absurd (omega (arith, below, e, length-rows_of_len len rows all, times many))
  ]
    where
      times : length rows ≤ q → length rows * len ≤ q * len
      times many = mul-le-mul_right len many

  -- one is left of which some are
  pub some_left : take (length rows - q) rows ≡ [] → ⊥
  some_left none = omega (arith, whole_rows, length-take-le (length rows - q) rows (omega arith), ap length none)

  pub some_later : drop q rows ≡ [] → ⊥
  some_later none = omega (arith, whole_rows, length-drop q rows, ap length none)

  module _ (others : List Row) (row : Row) (is : take (length rows - q) rows ≡ others ++ row ∷ []) where
    pub rows_shortened : r < len → take (length (rows_places rows) - (count + 1)) (rows_places rows)
        ≡ rows_places (rows_and others (record row { len = row.len - (r + 1) }))
    rows_shortened short =
        let part = take (length rows - q) rows in
        let row' = record row { len = row.len - (r + 1) } in
        let places = row_places row.start row.stride row.len in
        let whole : rows_places part ≡ rows_places others ++ places =
        ap rows_places is
        ∙ flat_map-append (λ row. row_places row.start row.stride row.len) others (row ∷ [])
        ∙ ap (λ xs. rows_places others ++ xs) (append-nil places) in
        let fewer : (length rows - q) * len + q * len ≡ length rows * len =
        omega (arith, ap (λ n. n * len) all_of) in
        let size : length (rows_places part) ≡ (length rows - q) * len =
        length-rows_of_len len part (All-take (λ row. row.len ≡ len) (length rows - q) rows all)
        ∙ ap (λ n. n * len) (length-take-le (length rows - q) rows (omega arith)) in
        let left : length (rows_places rows) - (count + 1) ≡ length (rows_places part) - (r + 1) =
        omega (arith, size, fewer, e, length-rows_of_len len rows all) in
        ap (λ n. take n (rows_places rows)) left
        ∙ sym (take-take (length (rows_places part) - (r + 1)) ((length rows - q) * len) (rows_places rows) (omega (arith, size)))
        ∙ ap (take (length (rows_places part) - (r + 1))) (take_rows len (length rows - q) rows all)
        ∙ ap (λ xs. take (length xs - (r + 1)) xs) whole
        ∙ take_within (rows_places others) places (r + 1)
        (omega (arith, short, last_len len q rows all others row is, length-row_places row.start row.stride row.len))
        ∙ ap (λ n. rows_places others ++ take (n - (r + 1)) places) (length-row_places row.start row.stride row.len)
        ∙ ap (λ xs. rows_places others ++ xs) (row_take (row.len - (r + 1)) row.len (pos row.start) row.stride (omega arith))
        ∙ sym (rows_places-and others row')
      where
        all_of : length rows - q + q ≡ length rows
        all_of = omega (arith, whole_rows)

    -- that one is no longer than they are, and lies where they do
    pub row_fits : row.len ≤ length (rows_places rows)
    row_fits =
        let some : 1 ≤ length rows = omega (arith, whole_rows) in
        omega (arith, last_len len q rows all others row is, length-rows_of_len len rows all, mul-le-mul_right len some)

    pub row_within : All (IsInBounds (2 ^ 63)) (rows_places rows) → (n : ℕ) → n ≤ row.len
        → All (IsInBounds (2 ^ 63)) (row_places row.start row.stride n)
    row_within in_bounds n few =
        let places = row_places row.start row.stride row.len in
        let whole : rows_places (take (length rows - q) rows) ≡ rows_places others ++ places =
        ap rows_places is
        ∙ flat_map-append (λ row. row_places row.start row.stride row.len) others (row ∷ [])
        ∙ ap (λ xs. rows_places others ++ xs) (append-nil places) in
        let taken = subst (All (IsInBounds (2 ^ 63))) (take_rows len (length rows - q) rows all ∙ whole)
        (All-take (IsInBounds (2 ^ 63)) ((length rows - q) * len) (rows_places rows) in_bounds) in
        subst (All (IsInBounds (2 ^ 63))) (row_take n row.len (pos row.start) row.stride few)
        (All-take (IsInBounds (2 ^ 63)) n places (All-back (IsInBounds (2 ^ 63)) (rows_places others) places taken))

-- ---- of a row that has begun, of rows and of a last one
module _ (place : ℕ) (stride : ℤ) (left : ℕ) (rows : List Row) (last : Row) where
  abbrev front : List ℤ
  front = row_from (pos place +ℤ stride) stride left

  abbrev back : List ℤ
  back = row_places last.start last.stride last.len

  pub parts : places_after place stride left (rows_and rows last) ≡ (front ++ rows_places rows) ++ back
  parts =
      after place stride left (rows_and rows last)
      ∙ ap (λ xs. front ++ xs) (rows_places-and rows last)
      ∙ sym (append_assoc front (rows_places rows) back)

  pub ends_in : places_after place stride left (rows_and rows last) ≡ places_after place stride left rows ++ back
  ends_in = parts ∙ ap (λ xs. xs ++ back) (sym (after place stride left rows))

  pub length-parts : length (places_after place stride left (rows_and rows last)) ≡ left + length (rows_places rows) + last.len
  length-parts = omega (
    arith,
    ap length parts,
    length-append (front ++ rows_places rows) back,
    length-append front (rows_places rows),
    length-row (pos place +ℤ stride) stride left,
    length-row_places last.start last.stride last.len,
  )

-- without the last places
module _ {place left : ℕ} {stride : ℤ} {rows : List Row} (l : ArePlacesLeft place stride left rows) where
  pub left_before : {left' : ℕ} {others : List Row} (more : List ℤ) → All (λ row. 0 < row.len) others
      → places_after place stride left rows ≡ places_after place stride left' others ++ more → ArePlacesLeft place stride left' others
  left_before {left'} {others} more some e = record {
    here = l.here;
    in_bounds = All-front (IsInBounds (2 ^ 63)) (places_after place stride left' others) more
        (subst (All (IsInBounds (2 ^ 63))) e l.in_bounds);
    some = some;
    fits = omega (arith, l.fits, ap length e, length-append (places_after place stride left' others) more);
  }

  pub left_taken : {left' : ℕ} {others : List Row} (n : ℕ) → All (λ row. 0 < row.len) others
      → take n (places_after place stride left rows) ≡ places_after place stride left' others → ArePlacesLeft place stride left' others
  left_taken {left'} {others} n some e =
      let all = places_after place stride left rows in
      record {
        here = l.here;
        in_bounds = subst (All (IsInBounds (2 ^ 63))) e (All-take (IsInBounds (2 ^ 63)) n all l.in_bounds);
        some = some;
        fits = omega (arith, l.fits, ap length e, length-take n all, min-le_right n (length all));
      }

  -- without the last row, or without its last place
  module _ (left' : ℕ) (others : List Row) (row : Row) {step : ℤ} (same : step ≡ stride) (some : 0 < row.len)
      (is : places_after place step left rows ≡ places_after place step left' others ++ row_places row.start row.stride row.len) where
    pub without_row : places_after place stride left rows
        ≡ places_after place stride left' others ++ row_places row.start row.stride row.len
    without_row = subst (λ s. places_after place s left rows ≡ places_after place s left' others ++ row_places row.start row.stride row.len)
        same is

    pub left_without_row : All (λ row. 0 < row.len) others → ArePlacesLeft place stride left' others
    left_without_row some_of = left_before (row_places row.start row.stride row.len) some_of without_row

    pub row_in : All (IsInBounds (2 ^ 63)) (row_places row.start row.stride row.len)
    row_in = All-back (IsInBounds (2 ^ 63)) (places_after place stride left' others) (row_places row.start row.stride row.len)
        (subst (All (IsInBounds (2 ^ 63))) without_row l.in_bounds)

    pub last_place : IsPlace (pos row.start +ℤ (pos (row.len - 1) *ℤ row.stride))
    last_place = place_bounds row.start row.stride row.len (row.len - 1) row_in (omega (arith, some))

    pub last_small : row.len ≤ limit
    last_small = omega (
      arith,
      l.fits,
      ap length without_row,
      length-append (places_after place stride left' others) (row_places row.start row.stride row.len),
      length-row_places row.start row.stride row.len,
    )

    pub without_last : {z : ℤ} → z ≡ pos row.start +ℤ (pos (row.len - 1) *ℤ row.stride)
        → places_after place stride left rows
        ≡ places_after place stride left' (rows_and others (record row { len = row.len - 1 })) ++ z ∷ []
    without_last {z} at =
        let others' = places_after place stride left' others in
        let places = row_places row.start row.stride (row.len - 1) in
        let more : row.len ≡ row.len - 1 + 1 = omega (arith, some) in
        without_row
        ∙ ap (λ n. others' ++ row_places row.start row.stride n) more
        ∙ ap (λ xs. others' ++ xs) (row_more row.start row.stride (row.len - 1))
        ∙ sym (append_assoc others' places ((pos row.start +ℤ (pos (row.len - 1) *ℤ row.stride)) ∷ []))
        ∙ ap (λ xs. xs ++ (pos row.start +ℤ (pos (row.len - 1) *ℤ row.stride)) ∷ [])
        (sym (ends_in place stride left' others (record row { len = row.len - 1 })))
        ∙ ap (λ z. places_after place stride left' (rows_and others (record row { len = row.len - 1 })) ++ z ∷ []) (sym at)

    pub left_without_last : All (λ row. 0 < row.len) others
        → ArePlacesLeft place stride left' (rows_and others (record row { len = row.len - 1 }))
    left_without_last some_of = left_before ((pos row.start +ℤ (pos (row.len - 1) *ℤ row.stride)) ∷ [])
        (All-and others (record row { len = row.len - 1 }) some_of) (without_last refl)

-- ---- several places at once
module _ (place left : ℕ) (stride : ℤ) (rows : List Row) (last : Row) (l : ArePlacesLeft place stride left (rows_and rows last)) where
  abbrev all : List ℤ
  all = places_after place stride left (rows_and rows last)

  abbrev row : List ℤ
  row = row_from (pos place +ℤ stride) stride left

  abbrev end : List ℤ
  end = row_places last.start last.stride last.len

  pub some_rows : All (λ row. 0 < row.len) rows
  some_rows = All-rows rows last (λ row. 0 < row.len) l.some

  pub end_in : All (IsInBounds (2 ^ 63)) end
  end_in = All-back (IsInBounds (2 ^ 63)) (row ++ rows_places rows) end
      (subst (All (IsInBounds (2 ^ 63))) (parts place stride left rows last) l.in_bounds)

  pub rows_in : All (IsInBounds (2 ^ 63)) (rows_places rows)
  rows_in = All-back (IsInBounds (2 ^ 63)) row (rows_places rows) (All-front (IsInBounds (2 ^ 63)) (row ++ rows_places rows) end
      (subst (All (IsInBounds (2 ^ 63))) (parts place stride left rows last) l.in_bounds))

  pub end_fits : last.len ≤ limit
  end_fits = omega (arith, l.fits, length-parts place stride left rows last)

  -- at the front: past all rows
  pub past_all : (count : ℕ) (rows' : List Row) (last' : Row) → left ≤ count → length (rows_places rows) ≤ count - left
      → rows' ≡ drop (length (rows_places rows)) rows
      → row_places last'.start last'.stride last'.len ≡ drop (count - left - length (rows_places rows)) end
      → drop count all ≡ places_after place stride 0 (rows_and rows' last')
  past_all count rows' last' more past is cut =
      let n = length (rows_places rows) in
      let split : count - left ≡ n + (count - left - n) = omega (arith, past) in
      past_row l count more
      ∙ ap (drop (count - left)) (rows_places-and rows last)
      ∙ ap (λ k. drop k (rows_places rows ++ end)) split
      ∙ drop-append-add (rows_places rows) end (count - left - n)
      ∙ sym cut
      ∙ ap (λ xs. rows_places xs ++ row_places last'.start last'.stride last'.len)
      (sym (is ∙ drop_all n rows (no_more rows some_rows)))
      ∙ sym (rows_places-and rows' last')

  -- or past whole ones
  pub past_whole : (len q : ℕ) {later : List Row} → All (λ row. row.len ≡ len) rows → later ≡ drop q rows
      → q * len ≤ length (rows_places rows)
      → drop (left + q * len) all ≡ rows_places (rows_and later last)
  past_whole len q {later} of_len is within =
      let split : left + q * len - left ≡ q * len = omega arith in
      past_row l (left + q * len) (omega arith)
      ∙ ap (λ n. drop n (rows_places (rows_and rows last))) split
      ∙ ap (drop (q * len)) (rows_places-and rows last)
      ∙ drop-append-le (q * len) (rows_places rows) end within
      ∙ ap (λ xs. xs ++ end) (drop_rows len q rows of_len ∙ ap rows_places (sym is))
      ∙ sym (rows_places-and later last)

  -- and so past many places, where they leave out whole rows alone
  pub past_rows : (len n : ℕ) {later : List Row} → All (λ row. row.len ≡ len) rows → n < length (rows_places rows)
      → later ≡ drop (n / len) rows → n % len ≡ 0 → drop (left + n) all ≡ rows_places (rows_and later last)
  past_rows len n of_len below is none =
      let whole : n ≡ n / len * len = omega (arith, div-add-mod' n len, none) in
      ap (λ k. drop (left + k) all) whole ∙ past_whole len (n / len) of_len is (omega (arith, below, whole))

  pub row_of_later : (len q : ℕ) {later others : List Row} {one : Row} → All (λ row. row.len ≡ len) rows → later ≡ drop q rows
      → q * len ≤ length (rows_places rows) → later ≡ one ∷ others
      → drop (left + q * len) all ≡ rows_places (one ∷ rows_and others last)
  row_of_later len q of_len is within first =
      past_whole len q of_len is within ∙ ap (λ xs. rows_places (rows_and xs last)) first

  -- or into the row after those
  pub enters_row : (len n : ℕ) {later others : List Row} {one : Row} → All (λ row. row.len ≡ len) rows → n < length (rows_places rows)
      → later ≡ drop (n / len) rows → later ≡ one ∷ others → 0 < n % len
      → EntersRow all one (rows_and others last) (left + n / len * len) (n % len)
  enters_row len n of_len below is first some = record {
    begins = row_of_later len (n / len) of_len is (omega (arith, below, div-add-mod' n len)) first;
    some = some;
    few = omega (
      arith,
      mod_below n len (some_len len n rows of_len below),
      first_len len (n / len) rows of_len (sym is ∙ first),
    );
  }

  -- at the back: in the last row
  pub within_last : (count : ℕ) → count ≤ last.len
      → take (length all - count) all ≡ places_after place stride left (rows_and rows (record last { len = last.len - count }))
  within_last count few =
      let others = row ++ rows_places rows in
      ap (λ xs. take (length xs - count) xs) (parts place stride left rows last)
      ∙ take_within others end count (omega (arith, few, length-row_places last.start last.stride last.len))
      ∙ ap (λ n. others ++ take (n - count) end) (length-row_places last.start last.stride last.len)
      ∙ ap (λ xs. others ++ xs) (row_take (last.len - count) last.len (pos last.start) last.stride (omega arith))
      ∙ sym (parts place stride left rows (record last { len = last.len - count }))

  before_last : (count : ℕ) → last.len ≤ count
      → take (length all - count) all ≡ take (length (row ++ rows_places rows) - (count - last.len)) (row ++ rows_places rows)
  before_last count more =
      let others = row ++ rows_places rows in
      ap (λ xs. take (length xs - count) xs) (parts place stride left rows last)
      ∙ take_past others end count (omega (arith, more, length-row_places last.start last.stride last.len))
      ∙ ap (λ n. take (length others - (count - n)) others) (length-row_places last.start last.stride last.len)

  -- past all rows
  pub before_all : (count : ℕ) (rows' : List Row) (last' : Row) {m : ℕ} → last.len ≤ count
      → length (rows_places rows) ≤ count - last.len → rows' ≡ take (length rows - length (rows_places rows)) rows → last'.len ≡ 0
      → m ≡ min left (count - last.len - length (rows_places rows))
      → take (length all - count) all ≡ places_after place stride (left - m) (rows_and rows' last')
  before_all count rows' last' {m} more past is none least =
      let n = length (rows_places rows) in
      let less = lesser left (count - last.len - n) least in
      let same : left - (count - last.len - n) ≡ left - m = elim (cases_lt m left) [
        | inl some ↦ omega (arith, less.2 some)
        | inr all ↦ omega (arith, all, less.0, less.1)
      ] in
      let zero_rows : length rows - n ≡ 0 = omega (arith, no_more rows some_rows) in
      let gone : rows_and rows' last' ≡ [] = and_none rows' last' none ∙ is ∙ ap (λ k. take k rows) zero_rows in
      before_last count more
      ∙ take_past row (rows_places rows) (count - last.len) past
      ∙ ap (λ k. take (k - (count - last.len - n)) row) (length-row (pos place +ℤ stride) stride left)
      ∙ row_take (left - (count - last.len - n)) left (pos place +ℤ stride) stride (omega arith)
      ∙ ap (row_from (pos place +ℤ stride) stride) same
      ∙ sym (append-nil (row_from (pos place +ℤ stride) stride (left - m)))
      ∙ ap (λ xs. row_from (pos place +ℤ stride) stride (left - m) ++ rows_places xs) (sym gone)
      ∙ sym (after place stride (left - m) (rows_and rows' last'))

  -- or past whole ones, and some places of another
  pub before_some : (count len q r : ℕ) {later : List Row} (others : List Row) (one : Row) → All (λ row. row.len ≡ len) rows
      → last.len < count → count - last.len - 1 < length (rows_places rows) → count - last.len - 1 ≡ q * len + r → r < len
      → later ≡ take (length rows - q) rows → later ≡ others ++ one ∷ []
      → take (length all - count) all ≡ places_after place stride left (rows_and others (record one { len = one.len - (r + 1) }))
  before_some count len q r others one of_len more below e short is first =
      let given : count - last.len ≡ count - last.len - 1 + 1 = omega (arith, more) in
      before_last count (omega (arith, more))
      ∙ take_within row (rows_places rows) (count - last.len) (omega (arith, below))
      ∙ ap (λ n. row ++ take (length (rows_places rows) - n) (rows_places rows)) given
      ∙ ap (λ xs. row ++ xs) (rows_shortened len (count - last.len - 1) q r rows of_len below e others one (sym is ∙ first) short)
      ∙ sym (after place stride left (rows_and others (record one { len = one.len - (r + 1) })))
