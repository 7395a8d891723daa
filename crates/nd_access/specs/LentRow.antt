-- What a contract sees of a row of items that are lent.
use Rattle.std.specs.Prelude.{◌≡◌, ℕ, ℤ, ◌<◌, ◌||◌, ◌^◌, pos, negsuc, Bool, true, false, Option, Some, None, List, [], ◌∷◌, map}
use Rattle.std.specs.Prelude.{nat_le, refl}
use Rattle.std.specs.List.{All, flat_map}
use Rattle.std.specs.Ordering.{int_eq}
use Rattle.std.proofs.Math.Dec.{lt→ltb}
use Rattle.std.proofs.lemmas.Bool.{ltb-true}
use Rattle.ndarray_layout.specs.declared.Row.{Row}
use Rattle.ndarray_layout.specs.Bounds.{IsInBounds}
use Rattle.ndarray_layout.specs.Rows.{row_places}
use Rattle.nd_access.specs.Items.{item_at_place}

-- what a contract sees of a row: the items among which it lies, and its places
pub record RowValue (T : Type 0) : Type 0 where
  pub items : List T
  pub row : Row

-- the places of a row, one after another
abbrev pub places_of : Row → List ℤ
places_of row = row_places row.start row.stride row.len

-- its items
abbrev pub row_items : {T : Type 0} → RowValue T → List (Option T)
row_items value = map (item_at_place value.items) (places_of value.row)

-- those of rows, one row after another
abbrev pub rows_items : {T : Type 0} → List (RowValue T) → List (Option T)
rows_items values = flat_map row_items values

-- those of a row, or of none
abbrev pub items_of_row : {T : Type 0} → Option (RowValue T) → List (Option T)
items_of_row None = []
items_of_row (Some value) = row_items value

-- the row of these places among items
abbrev pub row_of : {T : Type 0} → List T → Row → RowValue T
row_of items row = record { items = items; row = row }

-- whether the places of a row lie side by side: its stride is 1, or it has at most one
abbrev pub is_contiguous : Row → Bool
is_contiguous row = int_eq row.stride (pos 1) || nat_le row.len 1

-- a row has a place, and each of its places has one of so many items
pub record HasRow (count : ℕ) (row : Row) : Type 0 where
  pub some : 0 < row.len
  pub short : row.len < 2 ^ 63
  pub within : All (IsInBounds count) (row_places row.start row.stride row.len)
  pub fit : All (IsInBounds (2 ^ 63)) (row_places row.start row.stride row.len)

-- examples
abbrev backwards : RowValue ℕ
backwards = row_of (7 ∷ 8 ∷ 9 ∷ []) (record { start = 2; stride = negsuc 1; len = 2 })

last_one_first : row_items backwards ≡ Some 9 ∷ Some 7 ∷ []
last_one_first = refl

of_no_row : items_of_row {T = ℕ} None ≡ []
of_no_row = refl

of_one_row : items_of_row (Some backwards) ≡ Some 9 ∷ Some 7 ∷ []
of_one_row = refl

one_row_after_another : rows_items (backwards ∷ backwards ∷ []) ≡ Some 9 ∷ Some 7 ∷ Some 9 ∷ Some 7 ∷ []
one_row_after_another = refl

backwards_is_none : is_contiguous backwards.row ≡ false
backwards_is_none = refl

neighbours_are_one : is_contiguous (record { start = 5; stride = pos 1; len = 3 }) ≡ true
neighbours_are_one = refl

one_item_is_one : is_contiguous (record { start = 5; stride = negsuc 8; len = 1 }) ≡ true
one_item_is_one = refl

two_at_one_place_are_none : is_contiguous (record { start = 5; stride = pos 0; len = 2 }) ≡ false
two_at_one_place_are_none = refl

row_past_its_items : HasRow 2 backwards.row → ⊥
row_past_its_items has = lt→ltb 2 2 (has.within 0 (pos 0) (ltb-true 0 2 refl))
