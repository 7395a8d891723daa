-- A row of items as an array of one axis.
use Rattle.std.proofs.Common.{◌≡◌, ℕ, ◌-◌, ◌*◌, ◌<◌, ◌≤◌, ◌^◌, ℤ, pos, negsuc, ◌+ℤ◌, ◌*ℤ◌, Bool, true, false, cond, [], ◌∷◌}
use Rattle.std.proofs.Common.{nat_eq, eqb-true, refl, subst, arith}
use Rattle.std.specs.Prelude.{nat_lt}
use Rattle.std.proofs.lemmas.Bool.{and_parts, false≢true, ltb-true}
use Rattle.std.proofs.lemmas.Int.{ints}
use Rattle.ndarray_layout.specs.declared.Row.{Row}
use Rattle.ndarray_layout.specs.Bounds.{IsInBounds}
use Rattle.ndarray_layout.specs.Rows.{row_view}
use Rattle.ndarray_layout.specs.Size.{limit}
use Rattle.ndarray_layout.specs.View.{IsPlace, IsView, LiesWithin, place_at}
use Rattle.nd_access.specs.ArrayView.{HasItems}
use Rattle.nd_access.specs.LentRow.{HasRow}
use Rattle.nd_access.proofs.Laws.RowItems.{begins, coordinate_in_bounds}

one_axis : (len : ℕ) → 0 < len → len ≤ limit → cond (nat_eq len 0) 1 (len * 1) ≤ limit
one_axis len some few = by (nat_eq len 0) refl
  where
    by : (none : Bool) → nat_eq len 0 ≡ none → cond none 1 (len * 1) ≤ limit
    by true e = absurd (omega (arith, some, eqb-true len 0 e))
    by false e = omega (arith, few)

-- where the first place and the last one are, from 0 to the limit, all are
between : (start : ℕ) (stride : ℤ) (len : ℕ) → 0 < len → len ≤ limit → start ≤ limit
    → IsPlace (pos start +ℤ (pos (len - 1) *ℤ stride))
    → IsView (record { start = start; shape = len ∷ []; strides = stride ∷ [] })
between start (pos s) len some few begins last = record {
  valid = record { same_count = refl; size_fits = one_axis len some few; span_fits = omega (arith, ints, last.1) };
  low = omega arith;
  high = omega (arith, ints, last.1);
}
between start (negsuc s) len some few begins last = record {
  valid = record { same_count = refl; size_fits = one_axis len some few; span_fits = omega (arith, ints, last.0, begins) };
  low = omega (arith, ints, last.0);
  high = omega (arith, begins);
}

is_place : (place : ℤ) → IsInBounds (2 ^ 63) place → IsPlace place
is_place (pos n) fits = (omega (arith, ints), omega (arith, ints, fits))
is_place (negsuc n) fits = absurd fits

pub row_is_view : {count : ℕ} (row : Row) → HasRow count row → IsView (row_view row)
row_is_view row has =
    between row.start row.stride row.len has.some (omega (arith, has.short))
    (omega (arith, begins (2 ^ 63) row.start row.stride row.len has.fit has.some))
    (is_place (pos row.start +ℤ (pos (row.len - 1) *ℤ row.stride))
    (coordinate_in_bounds (2 ^ 63) row.start row.stride row.len (row.len - 1) has.fit (omega (arith, has.some))))

row_lies_within : {count : ℕ} (row : Row) → HasRow count row → LiesWithin count (row_view row)
row_lies_within row has [] is = absurd (false≢true is)
row_lies_within {count} row has (i ∷ []) is =
    let below = ltb-true i row.len (and_parts (nat_lt i row.len) true is).0 in
    let at : pos row.start +ℤ (pos i *ℤ row.stride) ≡ place_at (row_view row) (i ∷ []) = omega (arith, ints) in
    subst (IsInBounds count) at (coordinate_in_bounds count row.start row.stride row.len i has.within below)
row_lies_within row has (i ∷ j ∷ index) is = absurd (false≢true (and_parts (nat_lt i row.len) false is).1)

pub row_has_items : {count : ℕ} (row : Row) → HasRow count row → HasItems count (row_view row)
row_has_items row has = record { is_view = row_is_view row has; within = row_lies_within row has }
