-- Laws of views: each index of the shape has a place; how many places there are, in which order, and where they lie.
use Rattle.std.proofs.Common.{◌≡◌, ℕ, ◌<◌, ◌^◌, ℤ, pos, ◌+ℤ◌, Bool, true, false, cond, Some, None, List, [], ◌∷◌}
use Rattle.std.proofs.Common.{length, map, refl, sym, ap, subst, ◌∙◌, arith}
use Rattle.std.specs.Prelude.{slice_get, slice_index}
use Rattle.std.specs.Option.{option_map}
use Rattle.std.specs.List.{All}
use Rattle.std.proofs.lemmas.Grind.{get_or_default_zero}
use Rattle.std.proofs.lemmas.Int.{ints}
use Rattle.std.proofs.lemmas.List.{get_or-map, length-map}
use Rattle.std.proofs.lemmas.List.Elements.{All-map, All-weaker}
use Rattle.std.proofs.lemmas.Option.{slice_get-map}
use Rattle.nd_base.specs.declared.order.Order.{Order}
use Rattle.nd_base.proofs.Laws.Definitions.{indices_in, is_index, IsInBounds, checked_offset, offset_of, place, index_of_flat_in}
use Rattle.nd_base.proofs.Laws.Definitions.{size, low_span, IsCount, IsValidLayout}
use Rattle.nd_base.proofs.Laws.Indices.{length-indices_in, All-indices_in, indices_in_of_empty}
use Rattle.nd_base.proofs.Laws.NonzeroSize.{length_le_nonzero_size, size_le_nonzero_size}
use Rattle.nd_base.proofs.Laws.FlatIndex.{slice_get-indices_in}
use Rattle.nd_base.proofs.Laws.Offset.{offset_bounds}
use Rattle.nd_base.proofs.Laws.Span.{low_high_span}
use Rattle.ndarray_layout.specs.View.{View, IsPlace, IsView, LiesWithin, place_at, view_places}

-- a layout from its lowest element on
pub lowest_view : {shape : List ℕ} {strides : List ℤ} → IsValidLayout shape strides
    → IsView (record { start = low_span shape strides; shape = shape; strides = strides })
lowest_view {shape} {strides} valid = record {
  valid = valid;
  low = omega arith;
  high = omega (arith, low_high_span shape strides, valid.span_fits);
}

-- the place of an index
pub view_place : {view : View} (index : List ℕ) → IsView view → is_index view.shape index ≡ true → IsPlace (place_at view index)
view_place {view} index v h =
    let offset = offset_bounds view.shape view.strides index h v.valid.same_count in
    (omega (arith, ints, offset.0, v.low), omega (arith, ints, offset.1, v.high))

-- an offset that is given is that of an index
pub some_offset : (shape : List ℕ) (strides : List ℤ) (index : List ℕ) {offset : ℤ} → Some offset ≡ checked_offset shape strides index
    → (is_index shape index ≡ true) × (offset ≡ offset_of strides index)
some_offset shape strides index {offset} e = by (is_index shape index) refl e
  where
    by : (t : Bool) → is_index shape index ≡ t → Some offset ≡ cond t (Some (offset_of strides index)) None
        → (is_index shape index ≡ true) × (offset ≡ offset_of strides index)
    by true h g = (h, cc)
    by false h g = absurd (cc)

-- the place at an offset that is given
pub offset_place_within : {view : View} (index : List ℕ) {offset : ℤ} → IsView view
    → Some offset ≡ checked_offset view.shape view.strides index → IsPlace (pos view.start +ℤ offset)
offset_place_within {view} index v e =
    let some = some_offset view.shape view.strides index e in
    let here = view_place index v some.0 in
    rw some.1 here

-- the size of a view fits a word
pub size_fits : {view : View} → IsView view → size view.shape < 2 ^ 64
size_fits {view} v = omega (arith, size_le_nonzero_size view.shape, v.valid.size_fits)

-- a view of a size of 0 has no place
pub no_places : (order : Order) (view : View) → size view.shape ≡ 0 → view_places order view ≡ []
no_places order view h = ap (map (place view.start view.strides)) (indices_in_of_empty order view.shape h)

-- as many places as indices
pub length-view_places : (order : Order) (view : View) → length (view_places order view) ≡ size view.shape
length-view_places order view = length-map (indices_in order view.shape) (place view.start view.strides) ∙ length-indices_in order
    view.shape

-- where a view lies within data, each of its places does
pub places_lie_within : (len : ℕ) (order : Order) (view : View) → LiesWithin len view → All (IsInBounds len) (view_places order view)
places_lie_within len order view within =
    let indices = indices_in order view.shape in
    let in_bounds = All-weaker (λ index. is_index view.shape index ≡ true)
    (λ index. IsInBounds len (place view.start view.strides index)) within indices (All-indices_in order view.shape) in
    All-map (IsInBounds len) (place view.start view.strides) indices in_bounds

-- the same of the places as unsigned numbers
pub items_lie_within : (len : ℕ) (order : Order) (view : View) (items : List ℕ) → map pos items ≡ view_places order view
    → LiesWithin len view → All (λ item. item < len) items
items_lie_within len order view items same within = λ k d below.
    let places = subst (All (IsInBounds len)) (sym same) (places_lie_within len order view within) in
    subst (IsInBounds len) (get_or-map pos items k d (pos d) below) (places k (pos d) (omega (arith, length-map items pos)))

-- what is listed at a flat index is the place of the index of that flat index
pub item_at_flat_index : (order : Order) (view : View) (items : List ℕ) (r : ℕ) → map pos items ≡ view_places order view
    → r < size view.shape
    → option_map pos (slice_get items r) ≡ Some (place_at view (index_of_flat_in order view.shape r))
item_at_flat_index order view items r same below =
    sym (slice_get-map pos items r)
    ∙ ap (λ places. slice_get places r) same
    ∙ slice_get-map (place view.start view.strides) (indices_in order view.shape) r
    ∙ ap (option_map (place view.start view.strides)) (slice_get-indices_in order view.shape r below)

-- each length of a view is below 2^63
pub lens_fit : {view : View} → IsView view → All (λ len. len < 2 ^ 63) view.shape
lens_fit {view} v = λ axis d below.
    omega (arith, get_or_default_zero view.shape axis d below, length_le_nonzero_size view.shape axis, v.valid.size_fits)

-- a view of a type that fixes two axes has two lengths
pub two_lengths : (view : View) → IsCount (Some 2) (length view.shape)
    → view.shape ≡ slice_index view.shape 0 ∷ slice_index view.shape 1 ∷ []
two_lengths view count = of view.shape count
  where
    of : (shape : List ℕ) → length shape ≡ 2 → shape ≡ slice_index shape 0 ∷ slice_index shape 1 ∷ []
    of [] two = absurd (omega arith)
    of (len ∷ []) two = absurd (omega arith)
    of (rows ∷ columns ∷ []) two = refl
    of (rows ∷ columns ∷ more ∷ shape) two = absurd (omega arith)
