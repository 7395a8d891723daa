-- The rows of a view: along the axis that moves fastest in an order, one for each index of the axes that move slower.
use Rattle.std.specs.Prelude.{◌≡◌, ℕ, ◌-◌, ◌==◌, ℤ, pos, negsuc, ◌+ℤ◌, ◌*ℤ◌, List, [], ◌∷◌, if◌then◌else◌, length, map, take, drop}
use Rattle.std.specs.Prelude.{Some, None, slice_get, slice_index_or, refl}
use Rattle.std.specs.Option.{option_map}
use Rattle.std.specs.Ordering.{int_eq}
use Rattle.std.proofs.Common.{ap}
use Rattle.std.proofs.lemmas.Bool.{both_ways}
use Rattle.std.proofs.lemmas.Bool.Decides.{Decides-int_eq}
use Rattle.std.specs.List.{flat_map}
use Rattle.nd_base.specs.declared.order.Order.{Order}
use Rattle.nd_base.specs.declared.order.Order.TheVariants.{RowMajor, ColumnMajor}
use Rattle.nd_base.specs.Indices.{below}
use Rattle.nd_base.specs.Signed.{magnitude}
use Rattle.nd_base.specs.Size.{size}
use Rattle.ndarray_layout.specs.declared.strided.rows.Row.{Row}
use Rattle.ndarray_layout.specs.View.{View, view_places}

-- the places of a row, which lie a stride apart
abbrev pub row_places : ℕ → ℤ → ℕ → List ℤ
row_places start stride len = map (λ i. pos start +ℤ (pos i *ℤ stride)) (below len)

-- those of rows, one row after another
abbrev pub rows_places : List Row → List ℤ
rows_places rows = flat_map (λ row. row_places row.start row.stride row.len) rows

-- of a list with an item for each axis, that of the axis that moves fastest, or this one where there is no axis
abbrev pub fastest_item : {A : Type 0} → Order → List A → A → A
fastest_item RowMajor items other = slice_index_or items (length items - 1) other
fastest_item ColumnMajor items other = slice_index_or items 0 other

-- and those of the axes that move slower
abbrev pub slower_items : {A : Type 0} → Order → List A → List A
slower_items RowMajor items = take (length items - 1) items
slower_items ColumnMajor items = drop 1 items

-- the view of the axes that move slower
abbrev pub slower_view : Order → View → View
slower_view order view = record {
  start = view.start;
  shape = slower_items order view.shape;
  strides = slower_items order view.strides;
}

-- the row along the fastest axis from a place on, which is not below 0; without axes it has that place alone
abbrev pub row_at : Order → View → ℤ → Row
row_at order view place = record {
  start = magnitude place;
  stride = fastest_item order view.strides (pos 0);
  len = fastest_item order view.shape 1;
}

-- for each index of the slower axes, in order, the row from its place on; none where the view has no index
abbrev pub view_rows : Order → View → List Row
view_rows order view =
    (if size view.shape == 0 then [] else map (row_at order view) (view_places order (slower_view order view)))

-- places begin as a row does: its places come first, one after another
abbrev pub BeginsAsRow : List ℤ → Row → Type 0
BeginsAsRow places row = take row.len places ≡ row_places row.start row.stride row.len

-- a row as a view of one axis
abbrev pub row_view : Row → View
row_view row = record { start = row.start; shape = row.len ∷ []; strides = row.stride ∷ [] }

-- examples
backwards : row_places 5 (negsuc 1) 3 ≡ pos 5 ∷ pos 3 ∷ pos 1 ∷ []
backwards = refl

without_places : row_places 5 (pos 1) 0 ≡ []
without_places = refl

abbrev two_of_three : View
two_of_three = record { start = 3; shape = 2 ∷ 3 ∷ []; strides = negsuc 2 ∷ pos 1 ∷ [] }

by_rows : view_rows RowMajor two_of_three
    ≡ record { start = 3; stride = pos 1; len = 3 } ∷ record { start = 0; stride = pos 1; len = 3 } ∷ []
by_rows = refl

second_by_rows : option_map row_view (slice_get (view_rows RowMajor two_of_three) 1)
    ≡ Some (record { start = 0; shape = 3 ∷ []; strides = pos 1 ∷ [] })
second_by_rows = refl

no_third : option_map row_view (slice_get (view_rows RowMajor two_of_three) 2) ≡ None
no_third = refl

by_columns : view_rows ColumnMajor two_of_three
    ≡ record { start = 3; stride = negsuc 2; len = 2 } ∷ record { start = 4; stride = negsuc 2; len = 2 }
    ∷ record { start = 5; stride = negsuc 2; len = 2 } ∷ []
by_columns = refl

of_no_axes : view_rows RowMajor (record { start = 7; shape = []; strides = [] }) ≡ record { start = 7; stride = pos 0; len = 1 } ∷ []
of_no_axes = refl

of_no_index : view_rows RowMajor (record { start = 0; shape = 2 ∷ 0 ∷ []; strides = pos 1 ∷ pos 1 ∷ [] }) ≡ []
of_no_index = refl

all_of_them : rows_places (view_rows ColumnMajor two_of_three) ≡ view_places ColumnMajor two_of_three
all_of_them = refl

-- of the places of two rows that lie apart those of the first one lie evenly, and no more
one_of_two : BeginsAsRow (pos 0 ∷ pos 3 ∷ pos 1 ∷ pos 4 ∷ []) (record { start = 0; stride = pos 3; len = 2 })
one_of_two = refl

no_places_begin : BeginsAsRow (pos 5 ∷ []) (record { start = 0; stride = pos 1; len = 0 })
no_places_begin = refl

not_three : BeginsAsRow (pos 0 ∷ pos 3 ∷ pos 1 ∷ []) (record { start = 0; stride = pos 3; len = 3 }) → ⊥
not_three begins =
    both_ways (int_eq (pos 1) (pos 6)) refl ((Decides-int_eq (pos 1) (pos 6)).1 (ap (λ xs. slice_index_or xs 2 (pos 0)) begins))
