-- The rows of items that are lent: where they lie, and what each shows.
use Rattle.std.proofs.Common.{◌≡◌, ℕ, zero, suc, ◌+◌, ◌<◌, ◌≤◌, ◌^◌, ℤ, pos, ◌+ℤ◌, ◌*ℤ◌, true, Some, None, ◌⊎◌, inl}
use Rattle.std.proofs.Common.{inr}
use Rattle.std.proofs.Common.{List, [], ◌∷◌, ◌++◌, length, get_or, map, take, drop, refl, sym, ap, subst, ◌∙◌, arith}
use Rattle.std.specs.List.{All, AllZip}
use Rattle.std.specs.List.Sorted.{IsPermutation}
use Rattle.std.specs.Ordering.{int_eq}
use Rattle.std.specs.Prelude.{nat_le}
use Rattle.std.proofs.lemmas.Bool.{leb-true, or_cases}
use Rattle.std.proofs.lemmas.Bool.Decides.{Decides-int_eq}
use Rattle.std.proofs.lemmas.List.{get_or_past, length-append, length-map, map-append}
use Rattle.std.proofs.lemmas.List.Elements.{All-cons, All-head, All-nil, All-tail}
use Rattle.std.proofs.lemmas.List.Sorted.{All-permutation, IsPermutation-sym, length_permutation}
use Rattle.ndarray_layout.specs.declared.Order.{Order}
use Rattle.ndarray_layout.specs.declared.Row.{Row}
use Rattle.ndarray_layout.specs.Bounds.{IsInBounds}
use Rattle.ndarray_layout.specs.Rows.{row_places, rows_places}
use Rattle.ndarray_layout.specs.View.{View, IsView, LiesWithin, view_places}
use Rattle.ndarray_layout.proofs.Laws.Rows.{All-rows_places, length-row_places, no_step, places_fit}
use Rattle.ndarray_layout.proofs.Laws.View.{places_lie_within}
use Rattle.nd_access.specs.LentRow.{HasRow, is_contiguous, row_items, row_of, rows_items}
use Rattle.nd_access.specs.Items.{item_at_place}
use Rattle.nd_access.proofs.Laws.RowLens.{short_rows}
use Rattle.nd_access.proofs.Laws.RowItems.{begins, coordinate_in_bounds, neighbours_within, read_neighbours}

-- ---- rows whose places are those of a view, in some order
module _ (order : Order) (view : View) (rows : List Row) (moved : IsPermutation (rows_places rows) (view_places order view)) where
  back : IsPermutation (view_places order view) (rows_places rows)
  back = IsPermutation-sym (rows_places rows) (view_places order view) moved

  -- where each place has an item, each row has one at each of its places
  pub rows_within : {count : ℕ} → IsView view → All (IsInBounds count) (view_places order view) → All (λ row. 0 < row.len) rows
      → All (HasRow count) rows
  rows_within {count} v within some =
      let lie = All-rows_places (IsInBounds count) rows
      (All-permutation (IsInBounds count) (view_places order view) (rows_places rows) back within) in
      let fit = All-rows_places (IsInBounds (2 ^ 63)) rows
      (All-permutation (IsInBounds (2 ^ 63)) (view_places order view) (rows_places rows) back (places_fit order v)) in
      λ k d under. record {
        some = some k d under;
        short = short_rows order view rows (sym (length_permutation (rows_places rows) (view_places order view) moved)) v k d under;
        within = lie k d under;
        fit = fit k d under;
      }

  -- so where the view lies within items
  pub rows_have_items : {count : ℕ} → IsView view → LiesWithin count view → All (λ row. 0 < row.len) rows → All (HasRow count) rows
  rows_have_items {count} v within some = rows_within v (places_lie_within count order view within) some

-- ---- rows of the same lengths
pub All-as_long : (rows others : List Row) → map (λ row. row.len) rows ≡ map (λ row. row.len) others → All (λ row. 0 < row.len) rows
    → All (λ row. 0 < row.len) others
All-as_long rows [] same some = All-nil (λ row. 0 < row.len)
All-as_long [] (other ∷ others) same some = absurd (omega (arith, ap length same))
All-as_long (row ∷ rows) (other ∷ others) same some =
    let long : row.len ≡ other.len = ap (λ lens. get_or lens 0 0) same in
    All-cons (λ row. 0 < row.len) other others (omega (arith, long, All-head (λ row. 0 < row.len) row rows some))
    (All-as_long rows others (ap (drop 1) same) (All-tail (λ row. 0 < row.len) row rows some))

-- so they have as many places
pub as_many_places : (rows others : List Row) → map (λ row. row.len) rows ≡ map (λ row. row.len) others
    → length (rows_places rows) ≡ length (rows_places others)
as_many_places [] [] same = refl
as_many_places [] (other ∷ others) same = absurd (omega (arith, ap length same))
as_many_places (row ∷ rows) [] same = absurd (omega (arith, ap length same))
as_many_places (row ∷ rows) (other ∷ others) same =
    let long : row.len ≡ other.len = ap (λ lens. get_or lens 0 0) same in
    omega (
      arith,
      long,
      as_many_places rows others (ap (drop 1) same),
      length-append (row_places row.start row.stride row.len) (rows_places rows),
      length-row_places row.start row.stride row.len,
      length-append (row_places other.start other.stride other.len) (rows_places others),
      length-row_places other.start other.stride other.len,
    )

-- each has the items of another one beside it
pub rows_beside : {T : Type 0} (items : List T) (rows others : List Row) → map (λ row. row.len) rows ≡ map (λ row. row.len) others
    → AllZip (λ row source. row.len ≡ source.row.len) rows (map (row_of items) others)
rows_beside items [] [] same = tt
rows_beside items [] (other ∷ others) same = absurd (omega (arith, ap length same))
rows_beside items (row ∷ rows) [] same = absurd (omega (arith, ap length same))
rows_beside items (row ∷ rows) (other ∷ others) same =
    (ap (λ lens. get_or lens 0 0) same, rows_beside items rows others (ap (drop 1) same))

pub rows_alike : {T U : Type 0} (own : List T) (items : List U) (rows others : List Row)
    → map (λ row. row.len) rows ≡ map (λ row. row.len) others
    → AllZip (λ row other. row.row.len ≡ other.row.len) (map (row_of own) rows) (map (row_of items) others)
rows_alike own items [] [] same = tt
rows_alike own items [] (other ∷ others) same = absurd (omega (arith, ap length same))
rows_alike own items (row ∷ rows) [] same = absurd (omega (arith, ap length same))
rows_alike own items (row ∷ rows) (other ∷ others) same =
    (ap (λ lens. get_or lens 0 0) same, rows_alike own items rows others (ap (drop 1) same))

-- their items are those at their places
pub rows_items-row_of : {T : Type 0} (items : List T) (rows : List Row)
    → rows_items (map (row_of items) rows) ≡ map (item_at_place items) (rows_places rows)
rows_items-row_of items [] = refl
rows_items-row_of items (row ∷ rows) =
    ap (λ others. row_items (row_of items row) ++ others) (rows_items-row_of items rows)
    ∙ sym (map-append (item_at_place items) (row_places row.start row.stride row.len) (rows_places rows))

-- so they are those at the places of the view
pub items_of_rows : {T : Type 0} (order : Order) (items : List T) (view : View) (rows : List Row)
    → rows_places rows ≡ view_places order view
    → rows_items (map (row_of items) rows) ≡ map (item_at_place items) (view_places order view)
items_of_rows order items view rows are = rows_items-row_of items rows ∙ ap (map (item_at_place items)) are

-- ---- a row
pub count_of_items : {T : Type 0} (items : List T) (row : Row) → row.len ≡ length (row_items (row_of items row))
count_of_items items row =
    sym (length-map (row_places row.start row.stride row.len) (item_at_place items) ∙ length-row_places row.start row.stride row.len)

-- one place lies by any stride
one_place : (start : ℕ) (stride : ℤ) (len : ℕ) → len ≤ 1 → row_places start stride len ≡ row_places start (pos 1) len
one_place start stride zero short = refl
one_place start stride (suc zero) short = ap (λ place. place ∷ []) (no_step (pos start) stride ∙ sym (no_step (pos start) (pos 1)))
one_place start stride (suc (suc len)) short = absurd (omega arith)

pub contiguous_places : (row : Row) → is_contiguous row ≡ true
    → row_places row.start row.stride row.len ≡ row_places row.start (pos 1) row.len
contiguous_places row is = by (or_cases (int_eq row.stride (pos 1)) (nat_le row.len 1) is)
  where
    by : (int_eq row.stride (pos 1) ≡ true) ⊎ (nat_le row.len 1 ≡ true)
        → row_places row.start row.stride row.len ≡ row_places row.start (pos 1) row.len
    by (inl one) = ap (λ stride. row_places row.start stride row.len) ((Decides-int_eq row.stride (pos 1)).0 one)
    by (inr short) = one_place row.start row.stride row.len (leb-true row.len 1 short)

-- such a row is a part of the items
pub end_within : {count : ℕ} (row : Row) → All (IsInBounds count) (row_places row.start row.stride row.len) → 0 < row.len
    → is_contiguous row ≡ true
    → row.start + row.len ≤ count
end_within {count} row within some is =
    neighbours_within count row.start row.len some (subst (All (IsInBounds count)) (contiguous_places row is) within)

pub contiguous_items : {T : Type 0} (items : List T) (row : Row) {n : ℕ} → HasRow (length items) row → is_contiguous row ≡ true
    → n ≡ row.len
    → map Some (take n (drop row.start items)) ≡ row_items (row_of items row)
contiguous_items items row has is long =
    ap (λ n. map Some (take n (drop row.start items))) long
    ∙ sym (ap (map (item_at_place items)) (contiguous_places row is)
    ∙ read_neighbours items row.start row.len (end_within row has.within has.some is))

-- a coordinate of a row, and the item at its place
pub record IsPlaceOf (count : ℕ) (row : Row) (coordinate : ℕ) : Type 0 where
  pub first : row.start < 2 ^ 63
  pub small : coordinate < 2 ^ 63
  pub fits : IsInBounds (2 ^ 63) (pos row.start +ℤ (pos coordinate *ℤ row.stride))
  pub within : IsInBounds count (pos row.start +ℤ (pos coordinate *ℤ row.stride))

pub place_of_coordinate : {count : ℕ} (row : Row) (coordinate : ℕ) → HasRow count row → coordinate < row.len
    → IsPlaceOf count row coordinate
place_of_coordinate {count} row coordinate has below = record {
  first = begins (2 ^ 63) row.start row.stride row.len has.fit has.some;
  small = omega (arith, has.short);
  fits = coordinate_in_bounds (2 ^ 63) row.start row.stride row.len coordinate has.fit below;
  within = coordinate_in_bounds count row.start row.stride row.len coordinate has.within below;
}

pub no_item_past : {T : Type 0} (items : List T) (row : Row) {coordinate : ℕ} → row.len ≤ coordinate
    → None ≡ get_or (row_items (row_of items row)) coordinate None
no_item_past items row {coordinate} past =
    sym (get_or_past (row_items (row_of items row)) coordinate None (omega (arith, count_of_items items row)))
