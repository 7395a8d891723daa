-- A row of places as a view of one axis.
use Rattle.std.proofs.Common.{◌≡◌, ℕ, ◌+◌, ◌-◌, ◌*◌, ◌<◌, ◌≤◌, ◌^◌, ℤ, pos, negsuc, ◌+ℤ◌, ◌*ℤ◌, Bool, true, false, cond, List, [], ◌∷◌}
use Rattle.std.proofs.Common.{◌++◌, Option, Some, None, length, nat_eq, eqb-true, refl, ap, subst, arith, length-append}
use Rattle.std.specs.Prelude.{IfSome}
use Rattle.std.specs.List.{All}
use Rattle.std.proofs.Math.Seq.{drop-append_seam, take-append_seam}
use Rattle.std.proofs.lemmas.Int.{ints}
use Rattle.std.proofs.lemmas.List.Elements.{All-cons, All-drop, All-head, All-nil, All-tail, All-take}
use Rattle.nd_base.proofs.Laws.Definitions.{IsInBounds, limit}
use Rattle.nd_base.specs.Size.{nonzero_size}
use Rattle.ndarray_layout.specs.declared.strided.rows.Row.{Row}
use Rattle.ndarray_layout.specs.PlacesLeft.{places_of_row}
use Rattle.ndarray_layout.specs.Rows.{row_places, row_view, rows_places}
use Rattle.ndarray_layout.specs.View.{IsPlace, IsView}
use Rattle.ndarray_layout.proofs.BothEnds.{All-back, All-front}
use Rattle.ndarray_layout.proofs.Laws.Rows.{length-row_places}
use Rattle.ndarray_layout.proofs.RowSteps.{place_bounds, start_bound}

one_axis : (len : ℕ) → 0 < len → len ≤ limit → nonzero_size (len ∷ []) ≤ limit
one_axis len some few = by (nat_eq len 0) refl
  where
    by : (none : Bool) → nat_eq len 0 ≡ none → cond none 1 (len * 1) ≤ limit
    by true e = absurd (omega (arith, some, eqb-true len 0 e))
    by false e = omega (arith, few)

-- where the first place and the last one are, from 0 to the limit, all are
pub between : (start : ℕ) (stride : ℤ) (len : ℕ) → 0 < len → len ≤ limit → start ≤ limit
    → IsPlace (pos start +ℤ (pos (len - 1) *ℤ stride))
    → IsView (record { start = start; shape = len ∷ []; strides = stride ∷ [] })
between start (pos s) len some few begins last = record {
  valid = record { same_count = refl; size_fits = one_axis len some few; span_fits = omega (arith, ints, last.1) };
  low = omega arith;
  high = omega (arith, ints, last.1);
}
between start (negsuc s) len some few begins last = record {
  valid = record { same_count = refl; size_fits = one_axis len some few; span_fits = omega (arith, ints, last.0, begins) };
  low = omega (arith, ints, last.0);
  high = omega (arith, begins);
}

row_is_view : (row : Row) → 0 < row.len → row.len ≤ limit → All (IsInBounds (2 ^ 63)) (row_places row.start row.stride row.len)
    → IsView (row_view row)
row_is_view row some few in_bounds =
    between row.start row.stride row.len some few (start_bound row.start row.stride row.len in_bounds some)
    (place_bounds row.start row.stride row.len (row.len - 1) in_bounds (omega (arith, some)))

-- among places that are left, a row is a view: at the front, and at the back
module _ {places : List ℤ} (row : Row) (others : List ℤ) (in_bounds : All (IsInBounds (2 ^ 63)) places) (few : length places ≤ limit)
    (some : 0 < row.len) where
  pub first_is_view : places ≡ row_places row.start row.stride row.len ++ others → IsView (row_view row)
  first_is_view is =
      let here = row_places row.start row.stride row.len in
      row_is_view row some
      (omega (arith, few, ap length is, length-append here others, length-row_places row.start row.stride row.len))
      (subst (All (IsInBounds (2 ^ 63))) (take-append_seam here others)
      (All-take (IsInBounds (2 ^ 63)) (length here) (here ++ others) (subst (All (IsInBounds (2 ^ 63))) is in_bounds)))

  pub last_is_view : places ≡ others ++ row_places row.start row.stride row.len → IsView (row_view row)
  last_is_view is =
      let here = row_places row.start row.stride row.len in
      row_is_view row some
      (omega (arith, few, ap length is, length-append others here, length-row_places row.start row.stride row.len))
      (subst (All (IsInBounds (2 ^ 63))) (drop-append_seam others here)
      (All-drop (IsInBounds (2 ^ 63)) (length others) (others ++ here) (subst (All (IsInBounds (2 ^ 63))) is in_bounds)))

each_is_view : (rows : List Row) → All (λ row. 0 < row.len) rows → All (IsInBounds (2 ^ 63)) (rows_places rows)
    → length (rows_places rows) ≤ limit → All (λ row. IsView (row_view row)) rows
each_is_view [] some in_bounds few = All-nil (λ row. IsView (row_view row))
each_is_view (row ∷ rows) some in_bounds few =
    let here = row_places row.start row.stride row.len in
    All-cons (λ row. IsView (row_view row)) row rows
    (first_is_view row (rows_places rows) in_bounds few (All-head (λ row. 0 < row.len) row rows some) refl)
    (each_is_view rows (All-tail (λ row. 0 < row.len) row rows some) (All-back (IsInBounds (2 ^ 63)) here (rows_places rows) in_bounds)
    (omega (arith, few, length-append here (rows_places rows))))

of_row : (one : Option Row) → All (IsInBounds (2 ^ 63)) (places_of_row one) → length (places_of_row one) ≤ limit
    → IfSome one (λ row. 0 < row.len) → IfSome one (λ row. (0 < row.len) × IsView (row_view row))
of_row None in_bounds few some = tt
of_row (Some row) in_bounds few some =
    (some, row_is_view row some (omega (arith, few, length-row_places row.start row.stride row.len)) in_bounds)

-- and rows between what is left of one at the front and of one at the back
module _ {places : List ℤ} (first : Option Row) (rows : List Row) (last : Option Row)
    (is : places ≡ (places_of_row first ++ rows_places rows) ++ places_of_row last)
    (in_bounds : All (IsInBounds (2 ^ 63)) places) (few : length places ≤ limit) where
  all : All (IsInBounds (2 ^ 63)) ((places_of_row first ++ rows_places rows) ++ places_of_row last)
  all = subst (All (IsInBounds (2 ^ 63))) is in_bounds

  count : length places ≡ length (places_of_row first) + length (rows_places rows) + length (places_of_row last)
  count = omega (
    arith,
    ap length is,
    length-append (places_of_row first ++ rows_places rows) (places_of_row last),
    length-append (places_of_row first) (rows_places rows),
  )

  before : All (IsInBounds (2 ^ 63)) (places_of_row first ++ rows_places rows)
  before = All-front (IsInBounds (2 ^ 63)) (places_of_row first ++ rows_places rows) (places_of_row last) all

  pub between_are_views : All (λ row. 0 < row.len) rows → All (λ row. IsView (row_view row)) rows
  between_are_views some =
      each_is_view rows some (All-back (IsInBounds (2 ^ 63)) (places_of_row first) (rows_places rows) before) (omega (arith, few, count))

  pub front_is_view : IfSome first (λ row. 0 < row.len) → IfSome first (λ row. (0 < row.len) × IsView (row_view row))
  front_is_view = of_row first (All-front (IsInBounds (2 ^ 63)) (places_of_row first) (rows_places rows) before) (omega (arith, few, count))

  pub back_is_view : IfSome last (λ row. 0 < row.len) → IfSome last (λ row. (0 < row.len) × IsView (row_view row))
  back_is_view =
      of_row last (All-back (IsInBounds (2 ^ 63)) (places_of_row first ++ rows_places rows) (places_of_row last) all)
      (omega (arith, few, count))
