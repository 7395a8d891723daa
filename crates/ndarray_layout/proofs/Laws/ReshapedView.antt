-- Laws of views whose places are read along another shape.
use Rattle.std.proofs.Common.{◌≡◌, ◌↔◌, ℕ, ◌<◌, ℤ, pos, ◌+ℤ◌, Bool, true, false, cond, ltb, Option, Some, None, List, [], ◌∷◌}
use Rattle.std.proofs.Common.{length, map, replicate, refl, sym, ap, ◌∙◌, arith}
use Rattle.std.specs.Prelude.{◌&&◌, ◌||◌}
use Rattle.std.proofs.lemmas.Bool.{le-ltb, ltb-false}
use Rattle.std.proofs.lemmas.Int.{ints}
use Rattle.std.proofs.lemmas.List.{length-replicate}
use Rattle.nd_base.specs.declared.error.ErrorKind.{ErrorKind}
use Rattle.nd_base.specs.declared.error.ErrorKind.TheVariants.{IncompatibleShape, Overflow}
use Rattle.nd_base.specs.declared.order.Order.{Order}
use Rattle.nd_base.proofs.Laws.Definitions.{indices_in, is_index, offset_of, place, flat_index_in, is_empty, limit, nonzero_size}
use Rattle.nd_base.proofs.Laws.Definitions.{size}
use Rattle.nd_base.proofs.Laws.Indices.{indices_in_of_empty}
use Rattle.nd_base.proofs.Laws.FlatIndex.{index_of_flat_in-flat_index_in, is_index-index_of_flat_in, flat_index_in-index_of_flat_in}
use Rattle.nd_base.proofs.Laws.FlatIndex.{flat_index_in-lt-size}
use Rattle.nd_base.proofs.Laws.FlatIndex.{same_from_flat_index_in}
use Rattle.nd_base.proofs.Laws.Size.{size_of_empty, size_of_nonempty}
use Rattle.ndarray_layout.specs.reshape.ForcedStrides.{forced_strides}
use Rattle.ndarray_layout.specs.reshape.SamePlaces.{Keeps}
use Rattle.ndarray_layout.specs.reshape.ReshapeFault.{reshape_fault}
use Rattle.nd_base.proofs.Laws.AsRead.{size-as_read}
use Rattle.ndarray_layout.proofs.Laws.Keeps.{alike-of-keeps, fault-exactly, forced-keeps, keeps-exactly, offset-as_read, size-of-keeps}
use Rattle.ndarray_layout.proofs.matching.HasIndex.{has_index-of-valid}
use Rattle.ndarray_layout.specs.Descends.{Descends}
use Rattle.ndarray_layout.specs.KeepsPlaces.{KeepsPlaces}
use Rattle.ndarray_layout.specs.View.{View, IsView, view_places}
use Rattle.ndarray_layout.proofs.Laws.KeepsPlaces.{Descends-kept}
use Rattle.ndarray_layout.proofs.Laws.Sources.{IsView-where_some}
use Rattle.ndarray_layout.specs.ReshapedView.{ReshapeFits, reshape_of, reshape_source, reshaped_strides, view_reshape_fault}

-- ---- the index of equal flat index
-- along strides that keep the places an index lies as far as the one of equal flat index does
offset_of_source : {order : Order} {from : List ℕ} {strides : List ℤ} {to : List ℕ} {others : List ℤ} (index : List ℕ)
    → length from ≡ length strides → Keeps order from strides to others → is_index to index ≡ true
    → (is_index from (reshape_source order from to index) ≡ true)
    × (offset_of others index ≡ offset_of strides (reshape_source order from to index))
offset_of_source {order} {from} {strides} {to} {others} index e k h =
    let r = flat_index_in order to index in
    let below : r < size from = omega (arith, flat_index_in-lt-size order to index h, size-of-keeps k) in
    let here = offset-as_read order to others r k.same_count in
    let there = offset-as_read order from strides r e in
    let alike = alike-of-keeps e k r (omega (arith, size-as_read order from)) in (
      is_index-index_of_flat_in order from r below,
      ap (offset_of others) (sym (index_of_flat_in-flat_index_in order to index h)) ∙ here ∙ alike ∙ sym there,
    )

-- different indices stand for different ones
source_apart : {order : Order} {from : List ℕ} {strides : List ℤ} {to : List ℕ} {others : List ℤ} (index other : List ℕ)
    → Keeps order from strides to others → is_index to index ≡ true → is_index to other ≡ true
    → reshape_source order from to index ≡ reshape_source order from to other → index ≡ other
source_apart {order} {from} {to = to} index other k here there same =
    let sizes = size-of-keeps k in
    let first =
    flat_index_in-index_of_flat_in order from (flat_index_in order to index)
    (omega (arith, flat_index_in-lt-size order to index here)) in
    let second =
    flat_index_in-index_of_flat_in order from (flat_index_in order to other)
    (omega (arith, flat_index_in-lt-size order to other there)) in
    same_from_flat_index_in order to index other here there (sym first ∙ ap (flat_index_in order from) same ∙ second)

-- ---- the fault
-- what a view without a fault has
none_parts : (large from_empty to_empty : Bool) (fault : Option ErrorKind)
    → cond large (Some Overflow) (cond (from_empty && to_empty) None (cond (from_empty || to_empty) (Some IncompatibleShape) fault)) ≡ None
    → (large ≡ false) × (from_empty ≡ to_empty) × (to_empty ≡ false → fault ≡ None)
none_parts true from_empty to_empty fault none = absurd (cc)
none_parts false true true fault none = (refl, refl, λ e. absurd (cc))
none_parts false true false fault none = absurd (cc)
none_parts false false true fault none = absurd (cc)
none_parts false false false fault none = (refl, refl, λ e. none)

none_from : (from_empty to_empty : Bool) (fault : Option ErrorKind) → from_empty ≡ to_empty → (to_empty ≡ false → fault ≡ None)
    → cond (from_empty && to_empty) None (cond (from_empty || to_empty) (Some IncompatibleShape) fault) ≡ None
none_from true true fault same none = refl
none_from true false fault same none = absurd (cc)
none_from false true fault same none = absurd (cc)
none_from false false fault same none = none refl

-- ---- strides that keep the places
same_emptiness : (from to : List ℕ) → size from ≡ size to → is_empty from ≡ is_empty to
same_emptiness from to sizes = by (is_empty from) (is_empty to) refl refl
  where
    by : (a b : Bool) → is_empty from ≡ a → is_empty to ≡ b → a ≡ b
    by true true e f = refl
    by true false e f = absurd (omega (arith, size_of_empty from e, size_of_nonempty to f))
    by false true e f = absurd (omega (arith, size_of_empty to f, size_of_nonempty from e))
    by false false e f = refl

-- without an index there is no place, whatever the strides are
empty_keeps : {order : Order} {from : List ℕ} {strides : List ℤ} {to : List ℕ} {others : List ℤ} → is_empty from ≡ true → is_empty to ≡ true
    → length to ≡ length others → Keeps order from strides to others
empty_keeps {order} {from} {strides} {to} {others} none nothing e =
    let here = ap (map (place 0 others)) (indices_in_of_empty order to (size_of_empty to nothing)) in
    let there = ap (map (place 0 strides)) (indices_in_of_empty order from (size_of_empty from none)) in
    record { same_count = e; same_places = here ∙ sym there }

-- those of the definition keep the places of a view without a fault
pub reshaped_keeps : (order : Order) (shape : List ℕ) {view : View} → IsView view → view_reshape_fault order shape view ≡ None
    → Keeps order view.shape view.strides shape (reshaped_strides order shape view)
reshaped_keeps order shape {view} v none = by (is_empty shape) refl
  where
    parts : (ltb limit (nonzero_size shape) ≡ false) × (is_empty view.shape ≡ is_empty shape)
        × (is_empty shape ≡ false → reshape_fault order view.shape view.strides shape ≡ None)
    parts = none_parts (ltb limit (nonzero_size shape)) (is_empty view.shape) (is_empty shape) (reshape_fault order view.shape view.strides
        shape) none

    by : (e : Bool) → is_empty shape ≡ e
        → Keeps order view.shape view.strides shape (cond e (replicate (length shape) (pos 0)) (forced_strides order view.shape view.strides
        shape))
    by true e = empty_keeps (parts.1 ∙ e) e (sym (length-replicate (length shape) (pos 0)))
    by false e = forced-keeps order shape (has_index-of-valid v.valid (parts.1 ∙ e)) e
        ((fault-exactly order view.shape view.strides shape).0 (parts.2 e))

-- a view can be read as one of a shape exactly where that has no fault
reshape_fits_of_no_fault : (order : Order) (shape : List ℕ) {view : View} → IsView view → view_reshape_fault order shape view ≡ None
    → ReshapeFits order shape view
reshape_fits_of_no_fault order shape {view} v none =
    let parts = none_parts (ltb limit (nonzero_size shape)) (is_empty view.shape) (is_empty shape)
    (reshape_fault order view.shape view.strides shape) none in
    (ltb-false limit (nonzero_size shape) parts.0, (reshaped_strides order shape view, reshaped_keeps order shape v none))

no_fault_of_reshape_fits : (order : Order) (shape : List ℕ) {view : View} → IsView view → ReshapeFits order shape view
    → view_reshape_fault order shape view ≡ None
no_fault_of_reshape_fits order shape {view} v fits =
    let sizes = size-of-keeps fits.1.1 in
    let same = same_emptiness view.shape shape sizes in
    rw (le-ltb limit (nonzero_size shape) fits.0) (none_from (is_empty view.shape) (is_empty shape)
    (reshape_fault order view.shape view.strides shape) same (λ some.
    (fault-exactly order view.shape view.strides shape).1
    ((keeps-exactly order shape (has_index-of-valid v.valid (same ∙ some)) some).1 fits.1)))

pub view_reshape_fault-ReshapeFits : (order : Order) (shape : List ℕ) {view : View} → IsView view
    → (view_reshape_fault order shape view ≡ None) ↔ ReshapeFits order shape view
view_reshape_fault-ReshapeFits order shape v = (reshape_fits_of_no_fault order shape v, no_fault_of_reshape_fits order shape v)

-- ---- the view that is read as one of a shape
-- it is a view of the same data, where each index lies where the index of equal flat index did
pub Descends-reshape_of : (order : Order) (shape : List ℕ) {view : View} → IsView view → view_reshape_fault order shape view ≡ None
    → Descends (reshape_source order view.shape shape) view (reshape_of order shape view)
Descends-reshape_of order shape {view} v none = Descends-kept whole keeps (λ index other. source_apart index other kept)
  where
    kept : Keeps order view.shape view.strides shape (reshaped_strides order shape view)
    kept = reshaped_keeps order shape v none

    keeps : KeepsPlaces (reshape_source order view.shape shape) view (reshape_of order shape view)
    keeps index here =
        let moved = offset_of_source index v.valid.same_count kept here in
        (moved.0, ap (λ z. pos view.start +ℤ z) moved.1)

    whole : IsView (reshape_of order shape view)
    whole = IsView-where_some (reshape_source order view.shape shape) shape (forced_strides order view.shape view.strides shape) v
        (λ some. rw some at kept.same_count)
        (reshape_fits_of_no_fault order shape v none).0 keeps

-- places from a start are those from 0, moved by it
map_moved : (start : ℕ) (strides : List ℤ) (xs : List (List ℕ))
    → map (place start strides) xs ≡ map (λ z. pos start +ℤ z) (map (place 0 strides) xs)
map_moved start strides [] = refl
map_moved start strides (x ∷ xs) =
    let first : place start strides x ≡ pos start +ℤ place 0 strides x = omega (arith, ints) in
    ap (λ z. z ∷ map (place start strides) xs) first ∙ ap (λ zs. (pos start +ℤ place 0 strides x) ∷ zs) (map_moved start strides xs)

-- the list of its places is that of the view
pub view_places-reshape_of : (order : Order) (shape : List ℕ) {view : View} → IsView view → view_reshape_fault order shape view ≡ None
    → view_places order (reshape_of order shape view) ≡ view_places order view
view_places-reshape_of order shape {view} v none =
    let kept = reshaped_keeps order shape v none in
    map_moved view.start (reshaped_strides order shape view) (indices_in order shape)
    ∙ ap (map (λ z. pos view.start +ℤ z)) kept.same_places
    ∙ sym (map_moved view.start view.strides (indices_in order view.shape))
