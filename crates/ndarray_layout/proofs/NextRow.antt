-- From one row of a view to the next: along a column, and to the first row of the next one.
use Rattle.std.proofs.Common.{◌≡◌, ℕ, suc, ◌+◌, ◌*◌, ◌-◌, ◌/◌, ◌%◌, ◌<◌, ℤ, pos, ◌+ℤ◌, ◌*ℤ◌, Bool, true, false}
use Rattle.std.proofs.Common.{inl, inr, List, [], ◌∷◌, replicate, length, drop, refl, sym, ap, ◌∙◌}
use Rattle.std.proofs.Common.{arith, add-one, drop-cons}
use Rattle.std.proofs.Math.Nat.{mul-le-mul_left}
use Rattle.std.proofs.lemmas.Bool.{cases_lt}
use Rattle.std.proofs.lemmas.Int.{ints}
use Rattle.std.proofs.lemmas.List.{get_or-map}
use Rattle.std.proofs.lemmas.Nat.{div-add-mod', div-mul-add, mod-mul-add, mod_below}
use Rattle.nd_base.specs.declared.order.Order.{Order}
use Rattle.nd_base.proofs.Laws.Definitions.{index_of_flat_in, indices_in, is_empty, offset_of, place}
use Rattle.nd_base.proofs.Laws.Definitions.{signed, size}
use Rattle.nd_base.proofs.Laws.FlatIndex.{flat_index_in-zeros, index_of_flat_in-flat_index_in, is_index-index_of_flat_in}
use Rattle.nd_base.proofs.Laws.Indices.{get_or-indices_in, length-indices_in}
use Rattle.nd_base.proofs.Laws.IsIndex.{is_index-zeros}
use Rattle.nd_base.proofs.Laws.Offset.{offset_of-zeros}
use Rattle.nd_base.proofs.Laws.Size.{size_of_empty}
use Rattle.ndarray_layout.specs.declared.strided.rows.Fastest.{Fastest}
use Rattle.ndarray_layout.specs.View.{View, IsPlace, IsView, place_at, view_places}
use Rattle.ndarray_layout.specs.RowsLeft.{axis_view, row_place}
use Rattle.ndarray_layout.specs.private.Fastest.{EndsIn}
use Rattle.ndarray_layout.proofs.Fastest.{offset_of-flat_index}
use Rattle.ndarray_layout.proofs.Laws.Rows.{one_more_step}
use Rattle.ndarray_layout.proofs.Laws.View.{length-view_places, view_place}
use Rattle.ndarray_layout.proofs.RowsLeft.{ends, steps}

-- ---- flat indices
-- the place of each
pub next_place : (order : Order) (view : View) (k : ℕ) → k < size view.shape
    → drop k (view_places order view) ≡ place_at view (index_of_flat_in order view.shape k) ∷ drop (k + 1) (view_places order view)
next_place order view k below =
    let places = view_places order view in
    let at = place view.start view.strides in
    let here = at (index_of_flat_in order view.shape k) in
    drop-cons places k (at []) (omega (arith, length-view_places order view))
    ∙ ap (λ z. z ∷ drop (suc k) places)
    (get_or-map at (indices_in order view.shape) k [] (at []) (omega (arith, length-indices_in order view.shape))
    ∙ ap at (get_or-indices_in order view.shape k [] below))
    ∙ ap (λ n. here ∷ drop n places) (sym (add-one k))

-- a flat index by a coordinate of the fastest axis and a flat index of the others
pub record IsOnAxis (len flat coordinate r : ℕ) : Type 0 where
  pub on : coordinate < len
  pub is : r ≡ flat * len + coordinate

pub axis_of_flat : (len r : ℕ) → 0 < len → IsOnAxis len (r / len) (r % len) r
axis_of_flat len r some = record { on = mod_below r len some; is = sym (div-add-mod' r len) }

module _ {order : Order} {shape lens : List ℕ} {strides others : List ℤ} {len : ℕ} {stride : ℤ}
    (e : EndsIn order shape lens len) (g : EndsIn order strides others stride) (count : length shape ≡ length strides) where
  pub on_axis : {flat coordinate r : ℕ} → IsOnAxis len flat coordinate r → r < size shape
      → offset_of strides (index_of_flat_in order shape r)
      ≡ (pos coordinate *ℤ stride) +ℤ offset_of others (index_of_flat_in order lens flat)
  on_axis {flat} {coordinate} {r} o below =
      offset_of-flat_index r e g count below
      ∙ ap (λ n. (pos (n % len) *ℤ stride) +ℤ offset_of others (index_of_flat_in order lens (n / len))) o.is
      ∙ ap (λ i. (pos i *ℤ stride) +ℤ offset_of others (index_of_flat_in order lens ((flat * len + coordinate) / len)))
      (mod-mul-add flat len coordinate o.on)
      ∙ ap (λ n. (pos coordinate *ℤ stride) +ℤ offset_of others (index_of_flat_in order lens n)) (div-mul-add flat len coordinate o.on)

  -- one coordinate on, an index lies a stride on
  pub next_on_axis : {flat coordinate r : ℕ} → IsOnAxis len flat coordinate r → 0 < coordinate → r < size shape
      → offset_of strides (index_of_flat_in order shape (r - 1)) +ℤ stride ≡ offset_of strides (index_of_flat_in order shape r)
  next_on_axis {flat} {coordinate} {r} o some below =
      let before : IsOnAxis len flat (coordinate - 1) (r - 1) = record { on = omega (arith, o.on); is = omega (arith, o.is) } in
      let more : coordinate ≡ coordinate - 1 + 1 = omega arith in
      omega (
        arith,
        ints,
        on_axis before (omega arith),
        on_axis o below,
        ap (λ i. pos i *ℤ stride) more,
        one_more_step (coordinate - 1) stride,
      )

-- each flat index has a place
pub flat_within : (order : Order) {view : View} → IsView view → (r : ℕ) → r < size view.shape
    → IsPlace (place_at view (index_of_flat_in order view.shape r))
flat_within order {view} v r below = view_place (index_of_flat_in order view.shape r) v (is_index-index_of_flat_in order view.shape r below)

pub below_factor : (n len count more : ℕ) → n * len + more ≡ len * count → 0 < more → n < count
below_factor n len count more e some = elim (cases_lt n count) [
  | inl below ↦ below
  | inr above ↦ absurd (omega (arith, mul-le-mul_left len above))
]

-- the first index lies at the start
pub first_place : (order : Order) (view : View) → 0 < size view.shape → place_at view (index_of_flat_in order view.shape 0) ≡ pos view.start
first_place order view some =
    let zeros = replicate (length view.shape) 0 in
    let index = index_of_flat_in order view.shape 0 in
    let is : index ≡ zeros =
    ap (index_of_flat_in order view.shape) (sym (flat_index_in-zeros order view.shape))
    ∙ index_of_flat_in-flat_index_in order view.shape zeros (is_index-zeros view.shape (by (is_empty view.shape) refl)) in
    omega (arith, ints, ap (offset_of view.strides) is, offset_of-zeros view.strides (length view.shape))
  where
    by : (empty : Bool) → is_empty view.shape ≡ empty → is_empty view.shape ≡ false
    by true e = absurd (omega (arith, size_of_empty view.shape e))
    by false e = e

-- ---- the place of a row, by that of the one before it
module _ (order : Order) (start : ℕ) (column : Fastest) (v : IsView (axis_view order start column)) where
  -- a stride on in its column
  pub row_on : {flat coordinate r : ℕ} → IsOnAxis column.len flat coordinate r → 0 < coordinate
      → r < size (axis_view order start column).shape
      → row_place order start column (r - 1) +ℤ signed column.stride ≡ row_place order start column r
  row_on o some below =
      omega (arith, ints, next_on_axis (ends order start column) (steps order start column) v.valid.same_count o some below)
