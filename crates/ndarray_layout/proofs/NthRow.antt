-- The row of a view by its number: how far it lies from the first one, axis by axis, and that it is a view.
use Rattle.std.proofs.Common.{◌≡◌, ◌⊎◌, ℕ, ◌+◌, ◌*◌, ◌-◌, ◌<◌, ◌≤◌, pos, ◌+ℤ◌, ◌*ℤ◌, FitsSigned, Bool, true, false, cond}
use Rattle.std.proofs.Common.{inl, inr, List, [], ◌∷◌, length, map, nat_eq, Some, None, slice_get, option_map, refl, sym, ap, ◌∙◌}
use Rattle.std.proofs.Common.{arith, mul-pos}
use Rattle.std.specs.Int.{w64}
use Rattle.std.proofs.lemmas.Bool.{eqb-false, ne_eqb}
use Rattle.std.proofs.lemmas.Int.{ints}
use Rattle.std.proofs.lemmas.List.{length-map}
use Rattle.std.proofs.lemmas.Option.{slice_get-map, slice_get_past}
use Rattle.nd_base.specs.declared.order.Order.{Order}
use Rattle.nd_base.proofs.Laws.Definitions.{IsValidLayout, all_signed, index_of_flat_in, indices_in, limit, low_span, offset_of}
use Rattle.nd_base.proofs.Laws.Definitions.{signed, size}
use Rattle.nd_base.proofs.Laws.FlatIndex.{is_index-index_of_flat_in, slice_get-indices_in}
use Rattle.ndarray_layout.specs.declared.strided.rows.Fastest.{Fastest}
use Rattle.ndarray_layout.specs.declared.strided.rows.Row.{Row}
use Rattle.ndarray_layout.specs.Rows.{row_at, slower_view, view_rows}
use Rattle.ndarray_layout.specs.RowsLeft.{axis_view, moved_to}
use Rattle.ndarray_layout.specs.View.{View, IsPlace, IsView, place_at, view_of, view_places}
use Rattle.ndarray_layout.specs.private.Fastest.{EndsIn, HasRows}
use Rattle.ndarray_layout.proofs.Fastest.{EndsIn-map, IsView-along, IsView-others, len_le_nonzero_size, size-others, some_coordinate}
use Rattle.ndarray_layout.proofs.Laws.Rows.{no_step}
use Rattle.ndarray_layout.proofs.Laws.View.{length-view_places, lowest_view}
use Rattle.ndarray_layout.proofs.RowsLeft.{IsView-slower, ends, row-axis_view, size-axis_view, slower-axis_view, steps}
use Rattle.ndarray_layout.proofs.NextRow.{IsOnAxis, below_factor, flat_within, on_axis}

-- ---- from a flat index to that of the slower axes
-- the view of a layout has an index of this flat index
pub record HasFlat (start : ℕ) (lens strides : List ℕ) (flat : ℕ) : Type 0 where
  pub view : IsView (view_of start lens strides)
  pub below : flat < size lens

-- as the whole layout has it, from its lowest place
pub has_whole : {lens strides : List ℕ} {flat : ℕ} → IsValidLayout lens (all_signed strides) → flat < size lens
    → HasFlat (low_span lens (all_signed strides)) lens strides flat
has_whole valid below = record { view = lowest_view valid; below = below }

-- that index has a place
pub flat_place : (order : Order) {start : ℕ} {lens strides : List ℕ} {flat : ℕ} → HasFlat start lens strides flat
    → IsPlace (place_at (view_of start lens strides) (index_of_flat_in order lens flat))
flat_place order {flat = flat} has = flat_within order has.view flat has.below

module _ {order : Order} {start : ℕ} {lens strides : List ℕ} {left : ℕ} (has : HasFlat start lens strides left) (axis : Fastest)
    (both : EndsIn order lens axis.lens.now axis.len × EndsIn order strides axis.strides.now axis.stride) where
  -- the axis has a coordinate
  pub some_len : 0 < axis.len
  some_len = some_coordinate left both.0 has.below

  pub len_small : axis.len ≤ limit
  len_small = omega (arith, len_le_nonzero_size both.0, has.view.valid.size_fits)

  -- an axis of length 1 leaves the flat index as it is
  pub on_one : axis.len ≤ 1 → IsOnAxis axis.len left 0 left
  on_one few =
      let one : axis.len ≡ 1 = omega (arith, some_len) in
      record { on = some_len; is = omega (arith, ap (λ n. left * n) one) }

  module _ {flat coordinate : ℕ} (o : IsOnAxis axis.len flat coordinate left) where
    -- the slower axes have an index of the flat index that is left
    pub others_have : HasFlat start axis.lens.now axis.strides.now flat
    others_have = record {
      view = IsView-others order both.0 (EndsIn-map signed both.1) has.view;
      below = below_factor flat axis.len (size axis.lens.now) (coordinate + (size lens - left))
          (omega (arith, has.below, o.is, size-others both.0)) (omega (arith, has.below));
    }

    -- the axis moves by its coordinate
    pub moves : offset_of (all_signed strides) (index_of_flat_in order lens left)
        ≡ (pos coordinate *ℤ signed axis.stride)
        +ℤ offset_of (all_signed axis.strides.now) (index_of_flat_in order axis.lens.now flat)
    moves = on_axis both.0 (EndsIn-map signed both.1) has.view.valid.same_count o has.below

    -- from one place of the view to another
    pub move_fits : FitsSigned w64 (pos coordinate *ℤ signed axis.stride)
    move_fits =
        let here = flat_place order has in
        let there = flat_place order others_have in
        omega (arith, ints, here.0, here.1, there.0, there.1, moves)

  -- and not at all by its first one
  pub stays : {flat : ℕ} → IsOnAxis axis.len flat 0 left
      → offset_of (all_signed strides) (index_of_flat_in order lens left)
      ≡ offset_of (all_signed axis.strides.now) (index_of_flat_in order axis.lens.now flat)
  stays {flat} o =
      omega (
        arith,
        ints,
        moves o,
        no_step (offset_of (all_signed axis.strides.now) (index_of_flat_in order axis.lens.now flat)) (signed axis.stride),
      )

-- ---- the row of a number
module _ (order : Order) (start : ℕ) (axis : Fastest) (number : ℕ) where
  abbrev inner : View
  inner = view_of start axis.lens.now axis.strides.now

  abbrev index : List ℕ
  index = index_of_flat_in order axis.lens.now number

  abbrev rows : List Row
  rows = map (row_at order (axis_view order start axis)) (view_places order (slower_view order (axis_view order start axis)))

  length-rows : length rows ≡ size axis.lens.now
  length-rows =
      length-map (view_places order (slower_view order (axis_view order start axis))) (row_at order (axis_view order start axis))
      ∙ ap (λ slower. length (view_places order slower)) (slower-axis_view order start axis)
      ∙ length-view_places order inner

  -- there are none past the last one, and none at all where they have no place
  no_row : (axis.len ≡ 0) ⊎ (size axis.lens.now ≤ number) → slice_get (view_rows order (axis_view order start axis)) number ≡ None
  no_row past = slice_get_past (view_rows order (axis_view order start axis)) number
      (by (nat_eq (size (axis_view order start axis).shape) 0) refl past)
    where
      by : (none : Bool) → nat_eq (size (axis_view order start axis).shape) 0 ≡ none → (axis.len ≡ 0) ⊎ (size axis.lens.now ≤ number)
          → length (cond none [] rows) ≤ number
      by true e past = omega arith
      by false e (inl no_len) = absurd (eqb-false (size (axis_view order start axis).shape) 0 e
          (size-axis_view order start axis ∙ ap (λ n. n * size axis.lens.now) no_len ∙ omega arith))
      by false e (inr last) = omega (arith, length-rows)

  module _ (some : 0 < axis.len) (below : number < size axis.lens.now) {place : ℕ} (begins : pos place ≡ place_at inner index) where
    abbrev row : Row
    row = record { start = place; stride = signed axis.stride; len = axis.len }

    all_rows : view_rows order (axis_view order start axis) ≡ rows
    all_rows = ap (λ none. cond none [] rows) (ne_eqb (size (axis_view order start axis).shape) 0 (λ none.
        omega (arith, none, size-axis_view order start axis, mul-pos some (is_some below))))
      where
        is_some : {n : ℕ} → number < n → 0 < n
        is_some below = omega arith

    -- the one that begins at the place of the index of its number
    nth_row : slice_get (view_rows order (axis_view order start axis)) number ≡ Some row
    nth_row =
        let view = axis_view order start axis in
        let at = place_at inner in
        ap (λ rows. slice_get rows number) all_rows
        ∙ slice_get-map (row_at order view) (view_places order (slower_view order view)) number
        ∙ ap (λ slower. option_map (row_at order view) (slice_get (view_places order slower) number)) (slower-axis_view order start axis)
        ∙ ap (option_map (row_at order view)) (slice_get-map at (indices_in order axis.lens.now) number)
        ∙ ap (λ found. option_map (row_at order view) (option_map at found)) (slice_get-indices_in order axis.lens.now number below)
        ∙ ap Some (sym (row-axis_view order start axis row refl refl (at index)))
        ∙ ap (λ place. Some (moved_to row place)) (sym begins)

    -- which is a view
    IsView-row : IsView (axis_view order start axis) → IsView (view_of place (axis.len ∷ []) (axis.stride ∷ []))
    IsView-row v = IsView-along order (ends order start axis) (steps order start axis) v index
        (is_index-index_of_flat_in order axis.lens.now number below) some begins

-- of a layout: along its fastest axis
module _ {order : Order} {start : ℕ} {lens strides : List ℕ} {axis : Fastest} (has : HasRows order lens strides axis)
    (v : IsView (view_of start lens strides)) where
  -- the slower axes are a view
  pub slower : IsView (view_of start axis.lens.now axis.strides.now)
  slower = IsView-slower order start axis (has.is_view start v)

  -- past the last row there is none
  pub none_at : {number : ℕ} → (axis.len ≡ 0) ⊎ (size axis.lens.now ≤ number)
      → None ≡ slice_get (view_rows order (view_of start lens strides)) number
  none_at {number} past = sym (ap (λ rows. slice_get rows number) (sym (has.rows start v)) ∙ no_row order start axis number past)

  module _ {number : ℕ} (some : 0 < axis.len) (below : number < size axis.lens.now) where
    -- each row before begins at a place
    pub row_within : IsPlace (place_at (view_of start axis.lens.now axis.strides.now) (index_of_flat_in order axis.lens.now number))
    row_within = flat_within order slower number below

    module _ {place : ℕ} (begins : pos place ≡ pos start
        +ℤ offset_of (all_signed axis.strides.now) (index_of_flat_in order axis.lens.now number)) where
      -- and from there on it is a view of one axis
      pub row_at_number : Some (record { start = place; stride = signed axis.stride; len = axis.len })
          ≡ slice_get (view_rows order (view_of start lens strides)) number
      row_at_number =
          sym (ap (λ rows. slice_get rows number) (sym (has.rows start v)) ∙ nth_row order start axis number some below begins)

      pub row_is_view : IsView (view_of place (axis.len ∷ []) (axis.stride ∷ []))
      row_is_view = IsView-row order start axis number some below begins (has.is_view start v)
