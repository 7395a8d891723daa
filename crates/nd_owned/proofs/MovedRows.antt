-- The places of rows that lie at an offset from others: each as far from that of the others.
use Rattle.std.proofs.Common.{◌≡◌, ℕ, ◌+◌, ◌<◌, ◌^◌, ℤ, pos, negsuc, ◌+ℤ◌, ◌*ℤ◌, Some, List, [], ◌∷◌, ◌++◌}
use Rattle.std.proofs.Common.{length, get_or, drop, map, refl, sym, ap, subst, ◌∙◌, arith}
use Rattle.std.specs.List.{All}
use Rattle.std.proofs.lemmas.Int.{ints}
use Rattle.std.proofs.lemmas.List.{map-append}
use Rattle.std.proofs.lemmas.List.Elements.{All-cons, All-head, All-nil, All-tail}
use Rattle.std.proofs.lemmas.Option.{slice_get-get_or, slice_get-map}
use Rattle.std.proofs.lemmas.Simd.{map-map}
use Rattle.std.specs.Option.{option_map}
use Rattle.ndarray_layout.specs.declared.Row.{Row}
use Rattle.ndarray_layout.specs.Bounds.{IsInBounds}
use Rattle.ndarray_layout.specs.Indices.{below}
use Rattle.ndarray_layout.specs.Rows.{row_places, rows_places}
use Rattle.ndarray_layout.specs.View.{IsPlace}
use Rattle.ndarray_layout.proofs.Laws.Lists.{map_same}
use Rattle.ndarray_layout.proofs.Laws.Rows.{All-first_row, get_or-row_places, left_from, length-row_places, no_step}
use Rattle.ndarray_layout.proofs.Laws.Signed.{magnitude_from}
use Rattle.nd_owned.specs.private.MovedRows.{CanMove, moved_row, moved_rows}

-- ---- one row
module _ (offset : ℤ) (row : Row) where
  moved_row_places : CanMove offset row → row_places (moved_row offset row).start row.stride row.len
      ≡ map (λ place. place +ℤ offset) (row_places row.start row.stride row.len)
  moved_row_places can =
      let start = magnitude_from (pos row.start +ℤ offset) can.1.0 in
      map_same (λ i. pos (moved_row offset row).start +ℤ (pos i *ℤ row.stride)) (λ i. (pos row.start +ℤ (pos i *ℤ row.stride)) +ℤ offset)
      (below row.len) (λ k d under. omega (arith, ints, start))
      ∙ sym (map-map (λ place. place +ℤ offset) (λ i. pos row.start +ℤ (pos i *ℤ row.stride)) (below row.len))

  -- what holds of its places holds of where it begins
  begins : (P : ℤ → Type 0) → 0 < row.len → All P (row_places row.start row.stride row.len) → P (pos row.start)
  begins P some all =
      subst P
      (get_or-row_places row.start row.stride row.len 0 (pos 0) some ∙ no_step (pos row.start) row.stride)
      (all 0 (pos 0) (omega (arith, some, length-row_places row.start row.stride row.len)))

-- a number of an `isize`, from 0 on
pub place_of : (z : ℤ) → IsInBounds (2 ^ 63) z → IsPlace z
place_of (pos n) within = (omega (arith, ints), omega (arith, ints, within))
place_of (negsuc n) within = absurd within

-- ---- rows
-- no rows have no places
pub no_places_of_none : (rows : List Row) → length rows ≡ 0 → length (rows_places rows) ≡ 0
no_places_of_none [] none = refl
no_places_of_none (row ∷ rows) none = absurd (omega (arith, none))

pub moved_rows_places : (offset : ℤ) (rows : List Row) → All (CanMove offset) rows
    → rows_places (moved_rows offset rows) ≡ map (λ place. place +ℤ offset) (rows_places rows)
moved_rows_places offset [] can = refl
moved_rows_places offset (row ∷ rows) can =
    let first = row_places row.start row.stride row.len in
    ap (λ places. places ++ rows_places (moved_rows offset rows)) (moved_row_places offset row (All-head (CanMove offset) row rows can))
    ∙ ap (λ places. map (λ place. place +ℤ offset) first ++ places)
    (moved_rows_places offset rows (All-tail (CanMove offset) row rows can))
    ∙ sym (map-append (λ place. place +ℤ offset) first (rows_places rows))

-- each begins at a place, before and after
abbrev Both : ℤ → ℤ → Type 0
Both offset place = IsInBounds (2 ^ 63) place × IsInBounds (2 ^ 63) (place +ℤ offset)

pub each_can_move : (offset : ℤ) (rows : List Row) → All (λ row. 0 < row.len) rows → All (IsInBounds (2 ^ 63)) (rows_places rows)
    → All (λ place. IsInBounds (2 ^ 63) (place +ℤ offset)) (rows_places rows) → All (CanMove offset) rows
each_can_move offset rows some here there = by rows some (λ k d under. (here k d under, there k d under))
  where
    by : (rows : List Row) → All (λ row. 0 < row.len) rows → All (Both offset) (rows_places rows) → All (CanMove offset) rows
    by [] some all = All-nil (CanMove offset)
    by (row ∷ rows) some all =
        let parts = All-first_row (Both offset) row rows all in
        let at = begins offset row (Both offset) (All-head (λ one. 0 < one.len) row rows some) parts.0 in
        let start = place_of (pos row.start) at.0 in
        All-cons (CanMove offset) row rows (omega (arith, ints, start.1), place_of (pos row.start +ℤ offset) at.1)
        (by rows (All-tail (λ one. 0 < one.len) row rows some) parts.1)

-- the one of a number comes next where so many came before it
pub row_of_index : (offset : ℤ) (rows : List Row) (i : ℕ) (default : Row) {row : Row} → i < length rows
    → row ≡ moved_row offset (get_or rows i default) → drop i (moved_rows offset rows) ≡ row ∷ drop (i + 1) (moved_rows offset rows)
row_of_index offset rows i default {row} below is =
    left_from (moved_rows offset rows) i
    (ap Some is
    ∙ sym (slice_get-map (moved_row offset) rows i ∙ ap (option_map (moved_row offset)) (slice_get-get_or rows i default below)))
