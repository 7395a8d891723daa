-- A row along an axis to which no other one joins is as long as it can be: one place further doesn't lie a stride on.
use Rattle.std.proofs.Common.{◌≡◌, ℕ, zero, suc, ◌*◌, ◌<◌, ◌≤◌, ℤ, pos, ◌+ℤ◌, ◌*ℤ◌, List, [], ◌∷◌, length, get_or, inl, inr, sym, ap}
use Rattle.std.proofs.Common.{◌∙◌, arith, Bool, true, false, cond, nat_eq, map}
use Rattle.std.specs.List.{All}
use Rattle.std.proofs.lemmas.List.Elements.{All-map, All-nil}
use Rattle.std.proofs.Math.IntN.{zero-*ℤ}
use Rattle.std.proofs.lemmas.Bool.{cases_lt}
use Rattle.std.proofs.lemmas.Int.{ints}
use Rattle.std.proofs.lemmas.List.{get_or-map, get_or-take, length-map, length-take}
use Rattle.nd_base.specs.declared.order.Order.{Order}
use Rattle.nd_base.proofs.Laws.Definitions.{all_signed, index_of_flat_in, indices_in, offset_of, place, signed, size}
use Rattle.nd_base.proofs.Laws.Indices.{get_or-indices_in, length-indices_in}
use Rattle.nd_shape.specs.Merge.{MergeFits}
use Rattle.nd_shape.proofs.Laws.Merge.{into_short, short_taken, steps_on}
use Rattle.ndarray_layout.specs.declared.strided.rows.Fastest.{Fastest}
use Rattle.ndarray_layout.specs.declared.strided.rows.Row.{Row}
use Rattle.ndarray_layout.specs.Rows.{BeginsAsRow, fastest_item, row_at, slower_items, slower_view, view_rows}
use Rattle.ndarray_layout.specs.RowsLeft.{axis_view}
use Rattle.ndarray_layout.specs.View.{View, IsView, place_at, view_places}
use Rattle.ndarray_layout.specs.private.Fastest.{EndsIn}
use Rattle.ndarray_layout.proofs.Fastest.{EndsIn-map, ends_of_some, fastest_item-ends}
use Rattle.ndarray_layout.proofs.NextRow.{IsOnAxis, on_axis}
use Rattle.ndarray_layout.proofs.RowsLeft.{IsView-slower, ends, size-axis_view, steps}
use Rattle.ndarray_layout.proofs.Laws.Rows.{get_or-row_places, length-row_places}
use Rattle.ndarray_layout.proofs.Laws.View.{length-view_places}

-- the place of a flat index
place_of : (order : Order) (view : View) (r : ℕ) → r < size view.shape
    → get_or (view_places order view) r (pos 0) ≡ place_at view (index_of_flat_in order view.shape r)
place_of order view r below =
    let at = place view.start view.strides in
    get_or-map at (indices_in order view.shape) r [] (pos 0) (omega (arith, length-indices_in order view.shape))
    ∙ ap at (get_or-indices_in order view.shape r [] below)

-- of places that begin as a row does
place_in_row : (places : List ℤ) (row : Row) (r : ℕ) → BeginsAsRow places row → r < row.len
    → get_or places r (pos 0) ≡ pos row.start +ℤ (pos r *ℤ row.stride)
place_in_row places row r begins below =
    sym (get_or-take row.len places r (pos 0) below)
    ∙ ap (λ xs. get_or xs r (pos 0)) begins
    ∙ get_or-row_places row.start row.stride row.len r (pos 0) below

more_than_one : (n s : ℕ) → n < n * s → (0 < n) × (1 < s)
more_than_one zero s h = absurd (omega arith)
more_than_one (suc n) zero h = absurd (omega arith)
more_than_one (suc n) (suc zero) h = absurd (omega arith)
more_than_one (suc n) (suc (suc s)) h = (omega arith, omega arith)

module _ (order : Order) (start : ℕ) (axis : Fastest) (v : IsView (axis_view order start axis)) (row : Row)
    (begins : BeginsAsRow (view_places order (axis_view order start axis)) row) where
  within : row.len ≤ axis.len * size axis.lens.now
  within =
      let places = view_places order (axis_view order start axis) in
      omega (
        arith,
        length-take row.len places,
        ap length begins,
        length-row_places row.start row.stride row.len,
        length-view_places order (axis_view order start axis),
        size-axis_view order start axis,
      )

  -- one place more, and the next axis joins
  module _ (more : axis.len < row.len) where
    abbrev len : ℕ
    len = fastest_item order axis.lens.now 1

    abbrev stride : ℕ
    stride = fastest_item order axis.strides.now 0

    some : (0 < axis.len) × (1 < size axis.lens.now)
    some = more_than_one axis.len (size axis.lens.now) (omega (arith, within))

    has_axis : (lens : List ℕ) → 1 < size lens → 0 < length lens
    has_axis [] more = absurd (omega arith)
    has_axis (n ∷ lens) more = omega arith

    counts : length axis.lens.now ≡ length axis.strides.now
    counts = omega (arith, (IsView-slower order start axis v).valid.same_count, length-map axis.strides.now signed)

    pub next : EndsIn order axis.lens.now (slower_items order axis.lens.now) len
    next = ends_of_some order axis.lens.now 1 (has_axis axis.lens.now some.1)

    pub next_stride : EndsIn order axis.strides.now (slower_items order axis.strides.now) stride
    next_stride = ends_of_some order axis.strides.now 0 (omega (arith, counts, has_axis axis.lens.now some.1))

    -- where a coordinate of the axis lies, and one of the next
    at : (flat coordinate r : ℕ) → IsOnAxis axis.len flat coordinate r → r < row.len
        → (pos start +ℤ ((pos coordinate *ℤ signed axis.stride) +ℤ offset_of (all_signed axis.strides.now)
        (index_of_flat_in order axis.lens.now flat))) ≡ pos row.start +ℤ (pos r *ℤ row.stride)
    at flat coordinate r o below =
        let inside : r < size (axis_view order start axis).shape = omega (arith, within, size-axis_view order start axis) in
        ap (λ z. pos start +ℤ z) (sym (on_axis (ends order start axis) (steps order start axis) v.valid.same_count o inside))
        ∙ sym (place_of order (axis_view order start axis) r inside)
        ∙ place_in_row (view_places order (axis_view order start axis)) row r begins below

    abbrev others : ℕ → ℤ
    others flat = offset_of (all_signed axis.strides.now) (index_of_flat_in order axis.lens.now flat)

    abbrev rest : ℤ
    rest = offset_of (all_signed (slower_items order axis.strides.now)) (index_of_flat_in order (slower_items order axis.lens.now) 0)

    along : 1 < len → (coordinate : ℕ) → coordinate ≤ 1 → others coordinate ≡ (pos coordinate *ℤ signed stride) +ℤ rest
    along next_long coordinate few = on_axis next (EndsIn-map signed next_stride) (IsView-slower order start axis v).valid.same_count
        (record { on = omega (arith, next_long); is = omega arith }) (omega (arith, some.1))

    -- where both have several coordinates
    goes_on : 1 < axis.len → 1 < len → signed stride ≡ pos axis.len *ℤ signed axis.stride
    goes_on long next_long =
        let first = at 0 0 0 (record { on = some.0; is = omega arith }) (omega arith) in
        let second = at 0 1 1 (record { on = long; is = omega arith }) (omega (arith, long)) in
        let last = at 1 0 axis.len (record { on = some.0; is = omega arith }) more in
        let step : signed axis.stride ≡ row.stride =
        omega (arith, ints, first, second, zero-*ℤ (signed axis.stride), zero-*ℤ row.stride) in
        let one : pos 1 *ℤ signed stride ≡ signed stride = omega (arith, ints) in
        let to : others 0 ≡ rest = omega (arith, ints, along next_long 0 (omega arith), zero-*ℤ (signed stride)) in
        let from : others 1 ≡ signed stride +ℤ rest = omega (arith, ints, along next_long 1 (omega arith), one) in
        omega (
          arith,
          ints,
          first,
          last,
          to,
          from,
          zero-*ℤ (signed axis.stride),
          zero-*ℤ row.stride,
          ap (λ t. pos axis.len *ℤ t) step,
        )

    pub fits : MergeFits len (signed stride) axis.len (signed axis.stride)
    fits = elim (cases_lt 1 axis.len) [
      | inr few ↦ (signed stride, into_short len (signed stride) axis.len (signed axis.stride) few)
      | inl long ↦ elim (cases_lt 1 len) [
        | inr few ↦ (signed axis.stride, short_taken len (signed stride) axis.len (signed axis.stride) few)
        | inl next_long ↦ (signed axis.stride, steps_on len (signed stride) axis.len (signed axis.stride) (goes_on long next_long))
      ]
    ]

-- and each row along an axis has its length
pub as_long : (order : Order) (axis : Fastest) (start n : ℕ) → n ≤ axis.len
    → All (λ row. n ≤ row.len) (view_rows order (axis_view order start axis))
as_long order axis start n few = by (nat_eq (size view.shape) 0)
  where
    view : View
    view = axis_view order start axis

    by : (none : Bool) → All (λ row. n ≤ row.len) (cond none [] (map (row_at order view) (view_places order (slower_view order view))))
    by true = All-nil (λ row. n ≤ row.len)
    by false = All-map (λ row. n ≤ row.len) (row_at order view) (view_places order (slower_view order view))
        (λ k d below. omega (arith, fastest_item-ends 1 (ends order start axis)))
