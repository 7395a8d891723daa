-- Laws of the places of all indices of a layout.
use Rattle.std.proofs.Common.{◌≡◌, ℕ, ◌+◌, ℤ, pos, ◌+ℤ◌, true, List, [], map, ap, ◌∙◌, arith}
use Rattle.std.proofs.lemmas.Int.{ints}
use Rattle.std.proofs.lemmas.List.{get_or-map, length-map}
use Rattle.std.proofs.lemmas.List.FromFn.{fill_by_all}
use Rattle.nd_base.specs.declared.order.Order.{Order}
use Rattle.nd_base.proofs.Laws.Definitions.{below, indices_in, is_index, offset_of, place, places, index_of_flat_in, flat_index_in, size}
use Rattle.nd_base.proofs.Laws.Indices.{get_or-indices_in, length-indices_in}
use Rattle.nd_base.proofs.Laws.FlatIndex.{is_index-index_of_flat_in, flat_index_in-index_of_flat_in}

-- where each index lies as far from the first as its flat index, the places follow one another
pub places_at_flat_indices : (order : Order) (start : ℕ) (shape : List ℕ) (strides : List ℤ)
    → ((index : List ℕ) → is_index shape index ≡ true → offset_of strides index ≡ pos (flat_index_in order shape index))
    → places order start shape strides ≡ map (λ r. pos (start + r)) (below (size shape))
places_at_flat_indices order start shape strides h =
    let xs = indices_in order shape in
    let long = length-indices_in order shape in
    fill_by_all (λ r. pos (start + r)) (places order start shape strides) (size shape) (pos 0)
    (length-map xs (place start strides) ∙ long) (λ k l.
    let index = index_of_flat_in order shape k in
    let here = h index (is_index-index_of_flat_in order shape k l) ∙ ap pos (flat_index_in-index_of_flat_in order shape k l) in
    get_or-map (place start strides) xs k [] (pos 0) (omega (arith, long))
    ∙ ap (place start strides) (get_or-indices_in order shape k [] l)
    ∙ ap (λ z. pos start +ℤ z) here
    ∙ omega (arith, ints))
