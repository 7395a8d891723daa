-- The rows of a view by columns: from one row to the next one, and to the one before.
use Rattle.std.proofs.Common.{◌≡◌, ℕ, ◌+◌, ◌-◌, ◌*◌, ◌/◌, ◌%◌, ◌<◌, ◌≤◌, ℤ, pos, ◌+ℤ◌, inl, inr, List}
use Rattle.std.proofs.Common.{get_or, drop, length}
use Rattle.std.proofs.Common.{sym, ap, subst, ◌∙◌, arith}
use Rattle.std.proofs.lemmas.Bool.{cases_lt}
use Rattle.std.proofs.lemmas.Nat.{div-add-mod', mod-mul-add, mod_below}
use Rattle.nd_base.specs.declared.order.Order.{Order}
use Rattle.nd_base.proofs.Laws.Definitions.{index_of_flat_in, signed, size}
use Rattle.ndarray_layout.specs.declared.strided.rows_of.Columns.{Columns}
use Rattle.ndarray_layout.specs.declared.strided.rows_of.InColumn.{InColumn}
use Rattle.ndarray_layout.specs.declared.strided.rows.Fastest.{Fastest}
use Rattle.ndarray_layout.specs.NumberedRows.{HasColumns, IsAfter, IsNext, numbered_place}
use Rattle.ndarray_layout.specs.Rows.{rows_places}
use Rattle.ndarray_layout.specs.RowsLeft.{axis_view, row_place}
use Rattle.ndarray_layout.specs.View.{View, IsPlace, IsView, place_at, view_of, view_places}
use Rattle.ndarray_layout.specs.private.Fastest.{HasPlaces, HasRows}
use Rattle.ndarray_layout.proofs.NextRow.{axis_of_flat, first_place, flat_within, next_place, row_on}
use Rattle.ndarray_layout.proofs.RowsLeft.{factor_of_some, size-axis_view}
use Rattle.ndarray_layout.proofs.Laws.Rows.{rows_places-view_rows}
use Rattle.ndarray_layout.proofs.Laws.View.{length-view_places}

-- ---- numbers by columns
-- a number comes after one in its column
pub next_remainder : (n len : ℕ) → n % len + 1 < len → (n + 1) % len ≡ n % len + 1
next_remainder n len less =
    let more : n + 1 ≡ (n / len) * len + (n % len + 1) = omega (arith, div-add-mod' n len) in
    ap (λ m. m % len) more ∙ mod-mul-add (n / len) len (n % len + 1) less

-- one that begins no column comes after one in its column
pub remainder_before : (n len : ℕ) → 0 < len → 0 < (n + 1) % len → n % len + 1 ≡ (n + 1) % len
remainder_before n len some rest = elim (cases_lt (n % len + 1) len) [
  | inl less ↦ sym (next_remainder n len less)
  | inr above ↦
      let whole : n % len + 1 ≡ len = omega (arith, above, mod_below n len some) in
      let more : n + 1 ≡ (n / len + 1) * len + 0 = omega (arith, div-add-mod' n len, whole) in
      absurd (omega (arith, rest, ap (λ m. m % len) more ∙ mod-mul-add (n / len + 1) len 0 some))
]

-- ---- the columns of a view
-- an axis that has the rows of a view has its places
pub HasPlaces-rows : {order : Order} {lens strides : List ℕ} {axis : Fastest} → HasRows order lens strides axis
    → HasPlaces order lens strides axis
HasPlaces-rows {order} has = record {
  slower_lens = has.slower_lens;
  slower_strides = has.slower_strides;
  is_view = has.is_view;
  places = λ start v. sym (rows_places-view_rows order (has.is_view start v)) ∙ ap rows_places (has.rows start v)
      ∙ rows_places-view_rows order v;
}

module _ (order : Order) (start : ℕ) (lens strides : List ℕ) (column : Fastest) (v : IsView (view_of start lens strides))
    (h : HasPlaces order lens strides column) where
  abbrev here : View
  here = view_of start lens strides

  all : view_places order (axis_view order start column) ≡ view_places order here
  all = h.places start v

  as_many : size (axis_view order start column).shape ≡ size here.shape
  as_many =
      sym (length-view_places order (axis_view order start column)) ∙ ap length all ∙ length-view_places order here

  pub count_of_columns : column.len * size column.lens.now ≡ size here.shape
  count_of_columns = sym (size-axis_view order start column) ∙ as_many

  same_place : (number : ℕ) → number < size here.shape
      → place_at here (index_of_flat_in order here.shape number) ≡ row_place order start column number
  same_place number below =
      ap (λ places. get_or places 0 (pos 0))
      (sym (next_place order here number below)
      ∙ ap (drop number) (sym all)
      ∙ next_place order (axis_view order start column) number (omega (arith, below, as_many)))

  some_in_column : 0 < size here.shape → 0 < column.len
  some_in_column some = factor_of_some column.len (size column.lens.now) (omega (arith, some, as_many, size-axis_view order start column))

  next_in_place : (number : ℕ) → number + 1 < size here.shape → 0 < (number + 1) % column.len
      → place_at here (index_of_flat_in order here.shape number) +ℤ signed column.stride
      ≡ place_at here (index_of_flat_in order here.shape (number + 1))
  next_in_place number below rest =
      let same : number ≡ number + 1 - 1 = omega arith in
      let on = axis_of_flat column.len (number + 1) (some_in_column (omega (arith, below))) in
      ap (λ place. place +ℤ signed column.stride)
      (same_place number (omega (arith, below)) ∙ ap (row_place order start column) same)
      ∙ row_on order start column (h.is_view start v) on rest (omega (arith, below, as_many))
      ∙ sym (same_place (number + 1) below)

  pub has_columns : {view : View} {stride : ℤ} → here ≡ view → stride ≡ signed column.stride
      → HasColumns order view (record { len = column.len; stride = stride })
  has_columns {view} {stride} is step =
      let at : (number : ℕ) → numbered_place order view number ≡ place_at here (index_of_flat_in order here.shape number) =
      λ number. ap (λ w. place_at w (index_of_flat_in order w.shape number)) (sym is) in
      let count = ap (λ w. size w.shape) (sym is) in
      record {
        some = λ some. some_in_column (omega (arith, some, count));
        on = λ number below rest.
            ap (λ place. place +ℤ stride) (at number)
            ∙ ap (λ s. place_at here (index_of_flat_in order here.shape number) +ℤ s) step
            ∙ next_in_place number (omega (arith, below, count)) rest
            ∙ sym (at (number + 1));
      }

-- ---- from one row to another
-- each begins at a place
module _ (order : Order) (view : View) where
  pub numbered_within : IsView view → (number : ℕ) → number < size view.shape
      → IsPlace (numbered_place order view number)
  numbered_within v number below = flat_within order v number below

  pub first_numbered : {start number : ℕ} → start ≡ view.start → number ≡ 0 → number < size view.shape
      → pos start ≡ numbered_place order view number
  first_numbered {start} {number} is none below =
      ap pos is
      ∙ sym (first_place order view (omega (arith, below)))
      ∙ ap (numbered_place order view) (sym none)

module _ {order : Order} {view : View} {columns : Columns} where
  module _ (h : HasColumns order view columns) {number : ℕ} {last : InColumn} where
    -- the next one of the column
    module _ (some : 0 < last.left) (below : number < size view.shape) (n : IsNext order view columns number last) (v : IsView view) where
      pub next_fits : IsPlace (pos last.place)
      next_fits = subst IsPlace (sym (n.place some)) (numbered_within order view v number below)

      -- and the one after it
      module _ (more : 1 < last.left) (within : number + last.left ≤ size view.shape) where
        rest : (number + 1) % columns.len ≡ number % columns.len + 1
        rest = next_remainder number columns.len (omega (arith, more, n.within some))

        pub next_of_column : pos last.place +ℤ columns.stride ≡ numbered_place order view (number + 1)
        next_of_column = ap (λ place. place +ℤ columns.stride) (n.place some)
            ∙ h.on number (omega (arith, more, within)) (omega (arith, rest))

        pub after_fits : IsPlace (pos last.place +ℤ columns.stride)
        after_fits = subst IsPlace (sym next_of_column) (numbered_within order view v (number + 1) (omega (arith, more, within)))

        pub left_of_column : (number + 1) % columns.len + (last.left - 1) ≤ columns.len
        left_of_column = omega (arith, more, n.within some, rest)

    -- the one before it
    module _ (some : 1 < last.left) (below : number < size view.shape) (b : IsAfter order view columns (number + 1) last) where
      rest_after : number % columns.len + 1 ≡ (number + 1) % columns.len
      rest_after = remainder_before number columns.len (h.some (omega (arith, below))) (omega (arith, some, b.within some))

      pub previous_of_column : numbered_place order view number +ℤ columns.stride ≡ pos last.place
      previous_of_column = h.on number (b.below some) (omega (arith, some, b.within some)) ∙ sym (b.place some)

      pub left_before : last.left - 1 ≤ number % columns.len + 1
      left_before = omega (arith, rest_after, b.within some)

      pub last_after_fits : IsView view → IsPlace (pos last.place)
      last_after_fits v = subst IsPlace (sym (b.place some)) (numbered_within order view v (number + 1) (b.below some))
