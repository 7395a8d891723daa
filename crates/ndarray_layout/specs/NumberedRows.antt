-- The rows along an axis by their numbers, from the places of a view: that of the axes that move slower.
use Rattle.std.specs.Prelude.{◌≡◌, ℕ, ◌+◌, ◌-◌, ◌*◌, ◌%◌, ◌<◌, ◌≤◌, ℤ, ◌+ℤ◌, pos, negsuc, List, [], ◌∷◌, drop, length, map, take, refl}
use Rattle.std.specs.Ordering.{int_eq}
use Rattle.std.proofs.Math.Arith.{le→nltb}
use Rattle.std.proofs.Math.Dec.{lit≤}
use Rattle.std.proofs.lemmas.Bool.{both_ways}
use Rattle.std.proofs.lemmas.Bool.Decides.{Decides-int_eq}
use Rattle.nd_base.specs.declared.order.Order.{Order}
use Rattle.nd_base.specs.declared.order.Order.TheVariants.{RowMajor, ColumnMajor}
use Rattle.nd_base.specs.FlatIndex.{index_of_flat_in}
use Rattle.nd_base.specs.Size.{size, limit}
use Rattle.ndarray_layout.specs.declared.strided.rows_of.Columns.{Columns}
use Rattle.ndarray_layout.specs.declared.strided.rows_of.InColumn.{InColumn}
use Rattle.ndarray_layout.specs.declared.strided.rows.Row.{Row}
use Rattle.ndarray_layout.specs.RowsLeft.{moved_to}
use Rattle.ndarray_layout.specs.View.{View, IsView, place_at, view_places}

-- of a list with an item for each axis those of so many axes that move slowest
abbrev pub slowest : {A : Type 0} → Order → ℕ → List A → List A
slowest RowMajor count items = take count items
slowest ColumnMajor count items = drop (length items - count) items

-- the view of these axes
abbrev pub slowest_view : Order → ℕ → View → View
slowest_view order count view = record {
  start = view.start;
  shape = slowest order count view.shape;
  strides = slowest order count view.strides;
}

-- of the rows like this one from each place of a view those from a number on, before another
abbrev pub rows_between : Order → View → Row → ℕ → ℕ → List Row
rows_between order starts row begun end = map (moved_to row) (take (end - begun) (drop begun (view_places order starts)))

-- an iterator has these rows left
pub record AreRowsBetween (order : Order) (starts : View) (len begun end : ℕ) : Type 0 where
  pub is_view : IsView starts
  pub number : begun ≤ end
  pub within : end ≤ size starts.shape
  pub fits : (end - begun) * len ≤ limit

-- the place where the row of a number begins
abbrev pub numbered_place : Order → View → ℕ → ℤ
numbered_place order starts number = place_at starts (index_of_flat_in order starts.shape number)

-- each row begins a stride after the one before it, but for the first one of each column
pub record HasColumns (order : Order) (starts : View) (columns : Columns) : Type 0 where
  pub some : 0 < size starts.shape → 0 < columns.len
  pub on : (number : ℕ) → number + 1 < size starts.shape → 0 < (number + 1) % columns.len
      → numbered_place order starts number +ℤ columns.stride ≡ numbered_place order starts (number + 1)

-- if rows of the column are left, the next one is the row of this number, and they come from it on
pub record IsNext (order : Order) (starts : View) (columns : Columns) (number : ℕ) (next : InColumn) : Type 0 where
  pub place : 0 < next.left → pos next.place ≡ numbered_place order starts number
  pub within : 0 < next.left → number % columns.len + next.left ≤ columns.len

-- if more rows of the column are left, the last one is the row of this number, and they come before it
pub record IsAfter (order : Order) (starts : View) (columns : Columns) (number : ℕ) (last : InColumn) : Type 0 where
  pub below : 1 < last.left → number < size starts.shape
  pub place : 1 < last.left → pos last.place ≡ numbered_place order starts number
  pub within : 1 < last.left → last.left ≤ number % columns.len + 1

-- how many rows were given before those that are left of the columns that have begun
abbrev pub count_given : ℕ → ℕ → ℕ
count_given begun left = begun - left

-- an iterator has these rows left, and knows where in their columns those lie that come next and that came last from the back
pub record AreRowsInColumns (order : Order) (starts : View) (len : ℕ) (columns : Columns) (front back : InColumn)
    (begun end : ℕ) : Type 0 where
  pub between : AreRowsBetween order starts len (count_given begun front.left) end
  pub steps : HasColumns order starts columns
  pub some : 0 < back.left
  pub few : front.left ≤ begun
  pub reached : begun ≤ end
  pub whole : begun < end → begun % columns.len ≡ 0
  pub next : IsNext order starts columns (count_given begun front.left) front
  pub after : IsAfter order starts columns end back

-- examples
slowest_by_rows : slowest {A = ℕ} RowMajor 2 (2 ∷ 3 ∷ 4 ∷ []) ≡ 2 ∷ 3 ∷ []
slowest_by_rows = refl

slowest_by_columns : slowest {A = ℕ} ColumnMajor 2 (2 ∷ 3 ∷ 4 ∷ []) ≡ 3 ∷ 4 ∷ []
slowest_by_columns = refl

abbrev three_by_two : View
three_by_two = record { start = 4; shape = 3 ∷ 2 ∷ []; strides = negsuc 1 ∷ pos 1 ∷ [] }

last_two : rows_between RowMajor (slowest_view RowMajor 1 three_by_two) (record { start = 0; stride = pos 1; len = 2 }) 1 3
    ≡ record { start = 2; stride = pos 1; len = 2 } ∷ record { start = 0; stride = pos 1; len = 2 } ∷ []
last_two = refl

before_the_first : (starts : View) → AreRowsBetween RowMajor starts 2 1 0 → ⊥
before_the_first starts left = le→nltb 0 1 left.number

begins_last : numbered_place RowMajor (slowest_view RowMajor 1 three_by_two) 2 ≡ pos 0
begins_last = refl

other_stride : HasColumns RowMajor (slowest_view RowMajor 1 three_by_two) (record { len = 3; stride = pos 2 }) → ⊥
other_stride has = both_ways (int_eq (pos 6) (pos 2)) refl ((Decides-int_eq (pos 6) (pos 2)).1 (has.on 0 (lit≤ tt) (lit≤ tt)))

past_the_column : (starts : View) → IsNext RowMajor starts (record { len = 3; stride = pos 2 }) 2 (record { place = 4; left = 2 }) → ⊥
past_the_column starts next = le→nltb 3 4 (next.within (lit≤ tt))

of_the_column_before : (starts : View) → IsAfter RowMajor starts (record { len = 3; stride = pos 2 }) 3 (record { place = 4; left = 2 }) → ⊥
of_the_column_before starts after = le→nltb 1 2 (after.within (lit≤ tt))

one_of_two : count_given 2 1 ≡ 1
one_of_two = refl
