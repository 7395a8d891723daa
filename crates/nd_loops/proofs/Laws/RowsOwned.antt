-- Rows of a part: each of their places is the part's own, those of one row and those of the others.
use Rattle.std.proofs.Common.{◌≡◌, ◌≢◌, ℕ, ◌+◌, ◌-◌, ◌*◌, ◌<◌, ◌≤◌, ◌^◌, ℤ, pos, ◌+ℤ◌, ◌*ℤ◌, true, false, Bool, List, ◌∷◌, ◌++◌}
use Rattle.std.proofs.Common.{length, get_or}
use Rattle.std.proofs.Common.{refl, sym, ap, subst, arith}
use Rattle.std.specs.List.{All}
use Rattle.std.specs.Prelude.{IsTrue}
use Rattle.std.proofs.lemmas.List.{get_or-append-add, length-append}
use Rattle.std.proofs.lemmas.List.Elements.{All-head, All-tail}
use Rattle.ndarray_layout.specs.declared.Order.{Order}
use Rattle.ndarray_layout.specs.declared.Row.{Row}
use Rattle.ndarray_layout.specs.Bounds.{IsInBounds}
use Rattle.ndarray_layout.specs.Rows.{row_places, rows_places}
use Rattle.ndarray_layout.specs.View.{IsView, View, view_places}
use Rattle.ndarray_layout.proofs.Laws.Rows.{All-first_row, get_or-row_places, length-row_places, places_fit}
use Rattle.nd_access.specs.Cells.{are_within, span_of}
use Rattle.nd_access.specs.Own.{AreOwn}
use Rattle.nd_access.specs.Part.{has_mark}
use Rattle.nd_loops.specs.OwnedRows.{OwnsEachRow, OwnsRow}
use Rattle.nd_access.proofs.Laws.Lists.{all_first, pairs_first, pairs_second}
use Rattle.nd_access.proofs.Laws.RowItems.{begins, coordinate_in_bounds}
use Rattle.nd_access.proofs.Laws.RowLens.{short_rows}
use Rattle.nd_access.proofs.Laws.SliceOfPart.{mark_in_bounds, span_within}

all_second : {X : Type 0} (P : X → Type 0) (xs ys : List X) → All P (xs ++ ys) → All P ys
all_second P xs ys all = λ k d below.
    subst P (get_or-append-add xs ys k d) (all (length xs + k) d (omega (arith, length-append xs ys, below)))

-- ---- places of a right, in two parts
module _ {marks : List Bool} (xs ys : List ℤ) (own : AreOwn marks (xs ++ ys)) where
  first_own : AreOwn marks xs
  first_own = record {
    marked = all_first (λ place. has_mark marks place ≡ true) xs ys own.marked;
    apart = pairs_first (λ one other. one ≢ other) xs ys own.apart;
  }

  second_own : AreOwn marks ys
  second_own = record {
    marked = all_second (λ place. has_mark marks place ≡ true) xs ys own.marked;
    apart = pairs_second (λ one other. one ≢ other) xs ys own.apart;
  }

-- ---- the first row, and the others
module _ {marks : List Bool} {row : Row} {rows : List Row} (owns : OwnsEachRow marks (row ∷ rows)) where
  pub owns_first : OwnsRow marks row
  owns_first = record {
    short = All-head (λ row. row.len < 2 ^ 63) row rows owns.short;
    fit = (All-first_row (IsInBounds (2 ^ 63)) row rows owns.fit).0;
    own = first_own (row_places row.start row.stride row.len) (rows_places rows) owns.own;
  }

  pub owns_others : OwnsEachRow marks rows
  owns_others = record {
    short = All-tail (λ row. row.len < 2 ^ 63) row rows owns.short;
    fit = (All-first_row (IsInBounds (2 ^ 63)) row rows owns.fit).1;
    own = second_own (row_places row.start row.stride row.len) (rows_places rows) owns.own;
  }

-- ---- the places of a view, in an order
pub rows_of_own : (order : Order) (marks : List Bool) (view : View) (rows : List Row) → IsView view
    → AreOwn marks (view_places order view) → rows_places rows ≡ view_places order view → OwnsEachRow marks rows
rows_of_own order marks view rows is own are = record {
  short = short_rows order view rows (ap length are) is;
  fit = subst (All (IsInBounds (2 ^ 63))) (sym are) (places_fit order is);
  own = subst (AreOwn marks) (sym are) own;
}

-- ---- a coordinate of a row, and its place
pub record IsPlaceOfRow (marks : List Bool) (row : Row) (coordinate : ℕ) : Type 0 where
  pub first : row.start < 2 ^ 63
  pub small : coordinate < 2 ^ 63
  pub fits : IsInBounds (2 ^ 63) (pos row.start +ℤ (pos coordinate *ℤ row.stride))
  pub marked : has_mark marks (pos row.start +ℤ (pos coordinate *ℤ row.stride)) ≡ true

pub place_of_row : (marks : List Bool) (row : Row) (coordinate : ℕ) → OwnsRow marks row → coordinate < row.len
    → IsPlaceOfRow marks row coordinate
place_of_row marks row coordinate owns below = record {
  first = begins (2 ^ 63) row.start row.stride row.len owns.fit (omega (arith, below));
  small = omega (arith, below, owns.short);
  fits = coordinate_in_bounds (2 ^ 63) row.start row.stride row.len coordinate owns.fit below;
  marked = subst (λ place. has_mark marks place ≡ true) (get_or-row_places row.start row.stride row.len coordinate (pos 0) below)
      (owns.own.marked coordinate (pos 0) (omega (arith, below, length-row_places row.start row.stride row.len)));
}

-- a row whose places lie side by side
pub stretch_of_row : (marks : List Bool) (row : Row) → OwnsRow marks row → row.stride ≡ pos 1 → 0 < row.len
    → IsTrue (are_within (span_of row.start row.len marks) marks) × (row.start + row.len ≤ length marks)
stretch_of_row marks row owns one some =
    let marked : (k at : ℕ) → k < row.len → row.start + k ≡ at → get_or marks at false ≡ true = λ k at below is.
    subst (λ (n : ℕ). get_or marks n false ≡ true) (let same : row.start + k * 1 ≡ at = omega (arith, is) in same)
    (subst (λ stride. has_mark marks (pos row.start +ℤ (pos k *ℤ stride)) ≡ true) one (place_of_row marks row k owns below).marked) in
    let last = row.start + (row.len - 1) in
    let end = mark_in_bounds marks last (marked (row.len - 1) last (omega (arith, some)) refl) in
    (span_within row.start row.len marks marked, omega (arith, end, some))
