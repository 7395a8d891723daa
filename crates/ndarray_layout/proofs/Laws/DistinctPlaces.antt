-- Laws of views that place no two of their indices at one element.
use Rattle.std.proofs.Common.{◌≡◌, ◌≢◌, ◌↔◌, ℕ, ◌<◌, ℤ, pos, ◌+ℤ◌, None, List, [], length, get_or, sym, ap, ◌∙◌, arith}
use Rattle.std.specs.List.{AllPairs}
use Rattle.std.proofs.lemmas.Int.{ints}
use Rattle.std.proofs.lemmas.List.{get_or-map, length-map}
use Rattle.nd_base.specs.declared.order.Order.{Order}
use Rattle.nd_base.proofs.Laws.Definitions.{HasDistinctOffsets, indices_in, offset_of}
use Rattle.nd_base.proofs.Laws.Indices.{All-indices_in, AllPairs-indices_in}
use Rattle.nd_shape.specs.Acceptance.{acceptance}
use Rattle.nd_shape.specs.declared.acceptance.CanIndexCheckMode.TheVariants.{OwnedMutable}
use Rattle.nd_shape.proofs.Laws.Acceptance.{accepted_distinct}
use Rattle.ndarray_layout.specs.DistinctPlaces.{HasDistinctPlaces}
use Rattle.ndarray_layout.specs.View.{View, place_at, view_places}

-- offsets of their own are places of their own
pub distinct_from_offsets : (start : ℕ) (shape : List ℕ) (strides : List ℤ) → HasDistinctOffsets shape strides
    → HasDistinctPlaces (record { start = start; shape = shape; strides = strides })
distinct_from_offsets start shape strides distinct index other here there same =
    let offsets : offset_of strides index ≡ offset_of strides other = omega (arith, ints) in
    distinct index other here there offsets

-- and places of their own are offsets of their own, so that a view's places are distinct exactly where its offsets are
pub offsets_from_distinct : (view : View) → HasDistinctPlaces view → HasDistinctOffsets view.shape view.strides
offsets_from_distinct view distinct index other here there same = distinct index other here there (ap (λ z. pos view.start +ℤ z) same)

pub HasDistinctPlaces-offsets : (view : View) → HasDistinctPlaces view ↔ HasDistinctOffsets view.shape view.strides
HasDistinctPlaces-offsets view = (offsets_from_distinct view, distinct_from_offsets view.start view.shape view.strides)

-- a layout that was accepted to be written
pub distinct_from_acceptance : (elem_size len start : ℕ) (shape : List ℕ) (strides : List ℤ)
    → acceptance elem_size len OwnedMutable shape strides ≡ None
    → HasDistinctPlaces (record { start = start; shape = shape; strides = strides })
distinct_from_acceptance elem_size len start shape strides accepted =
    distinct_from_offsets start shape strides (accepted_distinct elem_size len shape strides accepted)

-- the list of distinct places has no place twice
pub AllPairs-view_places : (order : Order) (view : View) → HasDistinctPlaces view
    → AllPairs (λ one other. one ≢ other) (view_places order view)
AllPairs-view_places order view distinct = λ i j d earlier below same.
    let indices = indices_in order view.shape in
    let late : j < length indices = omega (arith, length-map indices (place_at view)) in
    let early : i < length indices = omega arith in
    AllPairs-indices_in order view.shape i j [] earlier late (distinct (get_or indices i []) (get_or indices j [])
    (All-indices_in order view.shape i [] early) (All-indices_in order view.shape j [] late)
    (sym (get_or-map (place_at view) indices i [] d early) ∙ same ∙ get_or-map (place_at view) indices j [] d late))
