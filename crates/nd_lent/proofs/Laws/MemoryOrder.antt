-- Laws of items as they are stored, where the places of a view fill one interval of memory: they are those of all indices.
use Rattle.std.proofs.Common.{◌≡◌, ℕ, ◌+◌, ◌-◌, ◌≤◌, ◌<◌, ℤ, pos, neg_ℤ, ◌+ℤ◌, Bool, true, false, Option, Some, List, length}
use Rattle.std.proofs.Common.{map, take, drop, refl, sym, ap, subst, ◌∙◌, arith}
use Rattle.std.specs.List.{range_with_len}
use Rattle.std.specs.List.Sorted.{IsPermutation}
use Rattle.std.proofs.lemmas.Int.{ints}
use Rattle.std.proofs.lemmas.List.FromFn.{fill_by_all, get_or-map-range_with_len, length-map-range_with_len}
use Rattle.std.proofs.lemmas.List.Sorted.{IsPermutation-map, IsPermutation-refl}
use Rattle.std.proofs.lemmas.Simd.{map-map}
use Rattle.ndarray_layout.specs.declared.Order.TheVariants.{RowMajor}
use Rattle.ndarray_layout.specs.Bounds.{IsInBounds}
use Rattle.ndarray_layout.specs.Indices.{below, is_index}
use Rattle.ndarray_layout.specs.Offset.{offset_of}
use Rattle.ndarray_layout.specs.OneInterval.{FillsInterval}
use Rattle.ndarray_layout.specs.Size.{is_empty, size}
use Rattle.ndarray_layout.specs.Span.{low_span}
use Rattle.ndarray_layout.specs.View.{View, IsView, place_at, view_places}
use Rattle.ndarray_layout.proofs.Laws.OneInterval.{has_index_in_interval, places_in_interval}
use Rattle.ndarray_layout.proofs.Laws.Size.{size_of_empty, size_of_nonempty}
use Rattle.ndarray_layout.proofs.Laws.View.{no_places}
use Rattle.nd_access.specs.ArrayView.{HasItems}
use Rattle.nd_access.specs.Items.{ArrayValue, item_at_place, items_of}
use Rattle.nd_lent.specs.MemoryOrder.{items_in_memory_order}
use Rattle.nd_lent.specs.SplitItems.{lowest}
use Rattle.nd_access.proofs.Laws.Neighbours.{got_between}

from_lowest : (start low k : ℕ) (offset : ℤ) → low ≤ start → offset ≡ pos k +ℤ neg_ℤ (pos low) → pos start +ℤ offset ≡ pos (start - low + k)
from_lowest start low k offset fits is = omega (arith, ints)

-- numbers that follow one another, as counted from the first
counted : (first n : ℕ) → map pos (range_with_len first n) ≡ map (λ k. pos (first + k)) (below n)
counted first n = fill_by_all (λ k. pos (first + k)) (map pos (range_with_len first n)) n (pos 0) (length-map-range_with_len pos first n)
    (λ k within. get_or-map-range_with_len pos first n k (first + k) (pos 0) within refl)

-- each place from the lowest on, as many as there are indices, is that of an index
pub index_in_memory : (view : View) → IsView view → is_empty view.shape ≡ false → FillsInterval view.shape view.strides → (k : ℕ)
    → k < size view.shape → (index : List ℕ) × (is_index view.shape index ≡ true) × (place_at view index ≡ pos (lowest view + k))
index_in_memory view is_view some fills k within =
    let found = has_index_in_interval view.shape view.strides is_view.valid.same_count some fills k within in (
      found.0,
      found.1,
      from_lowest view.start (low_span view.shape view.strides) k (offset_of view.strides found.0) is_view.low found.2,
    )

module _ {T : Type 0} (array : ArrayValue T) (has : HasItems (length array.items) array.view)
    (fills : FillsInterval array.view.shape array.view.strides) where
  of_some : is_empty array.view.shape ≡ false → IsPermutation (map Some (items_in_memory_order array)) (items_of array)
  of_some some =
      let view = array.view in
      let n = size view.shape in
      let get : ℤ → Option T = item_at_place array.items in
      let first : 0 < n = size_of_nonempty view.shape some in
      let last = index_in_memory view has.is_view some fills (n - 1) (omega arith) in
      let within : lowest view + (n - 1) < length array.items = subst (IsInBounds (length array.items)) last.2 (has.within last.0 last.1) in
      let stored : map get (map (λ k. pos (lowest view + k)) (below n)) ≡ map Some (items_in_memory_order array) =
      ap (map get) (sym (counted (lowest view) n))
      ∙ map-map get pos (range_with_len (lowest view) n)
      ∙ got_between array.items (lowest view) n (omega arith) in
      subst (λ items. IsPermutation items (items_of array)) stored
      (IsPermutation-map get (map (λ k. pos (lowest view + k)) (below n)) (view_places RowMajor view)
      (places_in_interval view.shape view.strides has.is_view.valid.same_count some fills RowMajor view.start has.is_view.low))

  of_none : is_empty array.view.shape ≡ true → IsPermutation (map Some (items_in_memory_order array)) (items_of array)
  of_none none =
      let no = size_of_empty array.view.shape none in
      let stored : map Some (items_in_memory_order array) ≡ items_of array =
      ap (λ (n : ℕ). map Some (take n (drop (lowest array.view) array.items))) no
      ∙ sym (ap (map (item_at_place array.items)) (no_places RowMajor array.view no)) in
      subst (IsPermutation (map Some (items_in_memory_order array))) stored (IsPermutation-refl (map Some (items_in_memory_order array)))

  -- the items as they are stored are those of all indices, in some order
  pub memory_order_permuted : IsPermutation (map Some (items_in_memory_order array)) (items_of array)
  memory_order_permuted = by (is_empty array.view.shape) refl
    where
      by : (t : Bool) → is_empty array.view.shape ≡ t → IsPermutation (map Some (items_in_memory_order array)) (items_of array)
      by true none = of_none none
      by false some = of_some some
