-- The rows along an axis, from the places of the axes that move slower.
use Rattle.std.specs.Prelude.{◌≡◌, ℕ, ℤ, pos, negsuc, List, [], ◌∷◌, ◌++◌, refl}
use Rattle.nd_base.specs.declared.order.Order.{Order}
use Rattle.nd_base.specs.declared.order.Order.TheVariants.{RowMajor, ColumnMajor}
use Rattle.nd_base.specs.FlatIndex.{index_of_flat_in}
use Rattle.nd_base.specs.Signed.{magnitude}
use Rattle.ndarray_layout.specs.declared.strided.rows.Fastest.{Fastest}
use Rattle.ndarray_layout.specs.declared.strided.rows.Row.{Row}
use Rattle.ndarray_layout.specs.View.{View, place_at, view_of}

-- the list with this item for the axis that moves fastest in the order, and these for the others
abbrev pub with_item : {A : Type 0} → Order → List A → A → List A
with_item RowMajor others item = others ++ item ∷ []
with_item ColumnMajor others item = item ∷ others

-- the view of an axis and of the axes that move slower
abbrev pub axis_view : Order → ℕ → Fastest → View
axis_view order start axis = view_of start (with_item order axis.lens.now axis.len) (with_item order axis.strides.now axis.stride)

-- a row like this one from another place on
abbrev pub moved_to : Row → ℤ → Row
moved_to row place = record { start = magnitude place; stride = row.stride; len = row.len }

-- the place where the row of a number begins
abbrev pub row_place : Order → ℕ → Fastest → ℕ → ℤ
row_place order start column number =
    let view = axis_view order start column in
    place_at view (index_of_flat_in order view.shape number)

-- examples
by_rows : with_item {A = ℕ} RowMajor (2 ∷ 3 ∷ []) 4 ≡ 2 ∷ 3 ∷ 4 ∷ []
by_rows = refl

by_columns : with_item {A = ℕ} ColumnMajor (3 ∷ 4 ∷ []) 2 ≡ 2 ∷ 3 ∷ 4 ∷ []
by_columns = refl

from_a_place : moved_to (record { start = 9; stride = negsuc 0; len = 2 }) (pos 5) ≡ record { start = 5; stride = negsuc 0; len = 2 }
from_a_place = refl
