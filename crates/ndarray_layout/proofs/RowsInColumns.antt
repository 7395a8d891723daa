-- What a cursor over rows by columns keeps: after the next row, after several, and without the last ones.
use Rattle.std.proofs.Common.{◌≡◌, ℕ, ◌+◌, ◌-◌, ◌*◌, ◌/◌, ◌%◌, ◌<◌, ◌≤◌, pos, ◌+ℤ◌, inl, inr, min, refl, sym, ap, subst, ◌∙◌, arith}
use Rattle.std.proofs.lemmas.Bool.{cases_lt}
use Rattle.std.proofs.lemmas.Nat.{div-add-mod', mod-mul-add, mod_below}
use Rattle.nd_base.specs.declared.order.Order.{Order}
use Rattle.nd_base.proofs.Laws.Definitions.{limit, size}
use Rattle.nd_base.proofs.Laws.NonzeroSize.{size_le_nonzero_size}
use Rattle.ndarray_layout.specs.declared.strided.rows.Row.{Row}
use Rattle.ndarray_layout.specs.declared.strided.rows_of.Columns.{Columns}
use Rattle.ndarray_layout.specs.declared.strided.rows_of.InColumn.{InColumn}
use Rattle.ndarray_layout.specs.NumberedRows.{AreRowsInColumns, IsAfter, IsNext, count_given, numbered_place}
use Rattle.ndarray_layout.specs.View.{View, IsPlace}
use Rattle.ndarray_layout.proofs.NumberedRows.{left_between, lesser}
use Rattle.ndarray_layout.proofs.RowColumns.{after_fits, left_of_column, next_fits, next_of_column}

-- a row of a column is left, after that number of rows
pub record HasRowInColumn (order : Order) (view : View) (len : ℕ) (columns : Columns) (back : InColumn) (end given : ℕ)
    (next : InColumn × ℕ) : Type 0 where
  pub left : AreRowsInColumns order view len columns next.0 back next.1 end
  pub some : 0 < next.0.left
  pub same : count_given next.1 next.0.left ≡ given

-- a column of which no row is left has no next one
pub none_next : {order : Order} {view : View} {columns : Columns} {number place : ℕ}
    → IsNext order view columns number (record { place = place; left = 0 })
none_next = record { place = λ some. absurd (omega (arith, some)); within = λ some. absurd (omega (arith, some)) }

module _ {order : Order} {view : View} {len : ℕ} {columns : Columns} {front back : InColumn} {begun end : ℕ}
    (l : AreRowsInColumns order view len columns front back begun end) where
  abbrev row : Row
  row = record { start = 0; stride = pos 0; len = len }

  abbrev pub given : ℕ
  given = count_given begun front.left

  pub end_fits : end ≤ limit
  end_fits = omega (arith, l.between.within, size_le_nonzero_size view.shape, l.between.is_view.valid.size_fits)

  -- ---- the next row
  -- in its column
  module _ (some : 0 < front.left) where
    pub in_column_below : given < end
    in_column_below = omega (arith, some, l.few, l.reached)

    below : given < size view.shape
    below = omega (arith, in_column_below, l.between.within)

    pub front_fits : IsPlace (pos front.place)
    front_fits = next_fits l.steps some below l.next l.between.is_view

    pub given_in_column : count_given begun (front.left - 1) ≡ given + 1
    given_in_column = omega (arith, some, l.few)

    pub left_in_column : {place : ℕ} → (IsPlace (pos front.place +ℤ columns.stride) → pos place ≡ pos front.place +ℤ columns.stride)
        → AreRowsInColumns order view len columns (record { place = place; left = front.left - 1 }) back begun end
    left_in_column {place} at =
        let all : given + front.left ≤ size view.shape = omega (arith, some, l.few, l.reached, l.between.within) in
        record {
          between = left_between row l.between (omega (arith, given_in_column)) (omega (arith, given_in_column, in_column_below))
              (omega arith);
          steps = l.steps;
          some = l.some;
          few = omega (arith, l.few);
          reached = l.reached;
          whole = l.whole;
          next = subst (λ n. IsNext order view columns n (record { place = place; left = front.left - 1 })) (sym given_in_column) (record {
            place = λ more. at (after_fits l.steps some below l.next l.between.is_view (omega (arith, more)) all)
                ∙ next_of_column l.steps some below l.next l.between.is_view (omega (arith, more)) all;
            within = λ more. left_of_column l.steps some below l.next l.between.is_view (omega (arith, more)) all;
          });
          after = l.after;
        }

  -- of a number, with those of its column
  module _ {number rows : ℕ} (later : given ≤ number) (less : number < end)
      (least : rows ≡ min (columns.len - number % columns.len) (end - number)) where
    some_in_column : 0 < columns.len
    some_in_column = l.steps.some (omega (arith, less, l.between.within))

    few : (rows ≤ columns.len - number % columns.len) × (rows ≤ end - number)
        × (rows < columns.len - number % columns.len → rows ≡ end - number)
    few = lesser (columns.len - number % columns.len) (end - number) least

    pub some_rows : 0 < rows
    some_rows = elim (cases_lt rows (columns.len - number % columns.len)) [
      | inl fewer ↦ omega (arith, less, few.2 fewer)
      | inr all ↦ omega (arith, all, mod_below number columns.len some_in_column)
    ]

    pub given_entered : count_given (number + rows) rows ≡ number
    given_entered = omega arith

    whole_column : number + rows < end → (number + rows) % columns.len ≡ 0
    whole_column further =
        let all : rows ≡ columns.len - number % columns.len = elim (cases_lt rows (columns.len - number % columns.len)) [
          | inl fewer ↦ absurd (omega (arith, further, few.2 fewer))
          | inr above ↦ omega (arith, few.0, above)
        ] in
        let begins : number + rows ≡ (number / columns.len + 1) * columns.len + 0 =
        omega (arith, all, div-add-mod' number columns.len, mod_below number columns.len some_in_column) in
        ap (λ n. n % columns.len) begins ∙ mod-mul-add (number / columns.len + 1) columns.len 0 some_in_column

    pub left_entered : {place : ℕ} → pos place ≡ numbered_place order view number
        → AreRowsInColumns order view len columns (record { place = place; left = rows }) back (number + rows) end
    left_entered {place} at = record {
      between = left_between row l.between (omega (arith, given_entered, later)) (omega (arith, given_entered, less)) (omega arith);
      steps = l.steps;
      some = l.some;
      few = omega arith;
      reached = omega (arith, few.1, less);
      whole = whole_column;
      next = subst (λ n. IsNext order view columns n (record { place = place; left = rows })) (sym given_entered)
          (record { place = λ _. at; within = λ _. omega (arith, few.0, mod_below number columns.len some_in_column) });
      after = l.after;
    }

  -- what is left of the column that has begun
  pub column_goes_on : {next : InColumn × ℕ} → next ≡ (front, begun) → 0 < front.left
      → HasRowInColumn order view len columns back end given next
  column_goes_on is some =
      subst (HasRowInColumn order view len columns back end given) (sym is) (record { left = l; some = some; same = refl })

  -- a column of which none is left, and then the next one
  pub column_begins : {next entered : InColumn × ℕ} → next ≡ entered → front.left ≡ 0
      → (begun < end) × (pos entered.0.place ≡ numbered_place order view begun)
      × (entered.0.left ≡ min columns.len (end - begun)) × (entered.1 ≡ begun + entered.0.left)
      → HasRowInColumn order view len columns back end given next
  column_begins {next} {entered} same none (below, at, least, is) =
      let all : columns.len ≡ columns.len - begun % columns.len = omega (arith, l.whole below) in
      let rows = least ∙ ap (λ n. min n (end - begun)) all in
      subst (HasRowInColumn order view len columns back end given) (sym same) (record {
        left = subst (λ n. AreRowsInColumns order view len columns entered.0 back n end) (sym is)
            (left_entered (omega (arith, none)) below rows at);
        some = some_rows (omega (arith, none)) below rows;
        same = omega (arith, is, none);
      })

  -- ---- all were given
  pub left_ended : (place : ℕ) → AreRowsInColumns order view len columns (record { place = place; left = 0 }) back end end
  left_ended place =
      let all : count_given end 0 ≡ end = omega arith in
      record {
        between = left_between row l.between (omega (arith, all, l.between.number)) (omega (arith, all)) (omega arith);
        steps = l.steps;
        some = l.some;
        few = omega arith;
        reached = omega arith;
        whole = λ more. absurd (omega (arith, more));
        next = none_next;
        after = l.after;
      }

  -- ---- fewer at the back
  module _ {begun' end' : ℕ} (number : given ≤ end') (before : end' ≤ end) (least : begun' ≡ min begun end') where
    few_begun : (begun' ≤ begun) × (begun' ≤ end') × (begun' < begun → begun' ≡ end')
    few_begun = lesser begun end' least

    reaches : given ≤ begun'
    reaches = elim (cases_lt begun' begun) [
      | inl fewer ↦ omega (arith, number, few_begun.2 fewer)
      | inr all ↦ omega (arith, all)
    ]

    pub given_cut : count_given begun' (front.left - (begun - begun')) ≡ given
    given_cut = omega (arith, reaches, l.few, few_begun.0)

    whole_cut : begun' < end' → begun' % columns.len ≡ 0
    whole_cut less = elim (cases_lt begun' begun) [
      | inl fewer ↦ absurd (omega (arith, less, few_begun.2 fewer))
      | inr all ↦
          let same : begun' ≡ begun = omega (arith, all, few_begun.0) in
          ap (λ n. n % columns.len) same ∙ l.whole (omega (arith, less, before, same))
    ]

    pub left_cut : {last : InColumn} → 0 < last.left → IsAfter order view columns end' last
        → AreRowsInColumns order view len columns (record { place = front.place; left = front.left - (begun - begun') }) last begun' end'
    left_cut {last} some after =
        record {
          between = left_between row l.between (omega (arith, given_cut)) (omega (arith, given_cut, number)) before;
          steps = l.steps;
          some = some;
          few = omega (arith, reaches, l.few, few_begun.0);
          reached = few_begun.1;
          whole = whole_cut;
          next = record {
            place = λ more. l.next.place (omega (arith, more)) ∙ ap (numbered_place order view) (sym given_cut);
            within = λ more. omega (arith, more, l.next.within (omega (arith, more)), ap (λ n. n % columns.len) given_cut);
          };
          after = after;
        }
