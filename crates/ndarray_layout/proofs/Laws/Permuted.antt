-- Laws of views that have the places of another one, each as often, in some order: both orders of a view, and each step that keeps all
-- indices.
use Rattle.std.proofs.Common.{◌≡◌, ℕ, ◌*◌, ◌<◌, ℤ, true, List, [], ◌∷◌, get_or, length, map, reverse, refl, sym, ap, subst, ◌∙◌, arith}
use Rattle.std.specs.List.{Contains}
use Rattle.std.specs.List.Sorted.{IsPermutation}
use Rattle.std.proofs.Math.Nat.{mul_assoc, mul_comm}
use Rattle.std.proofs.lemmas.List.{get_or-map, length-map, reverse-reverse}
use Rattle.std.proofs.lemmas.Simd.{map-map}
use Rattle.std.proofs.lemmas.List.Sorted.{IsPermutation-map}
use Rattle.nd_base.specs.declared.order.Order.{Order}
use Rattle.nd_base.proofs.Laws.Definitions.{indices_in, is_index, size}
use Rattle.nd_base.proofs.Laws.Indices.{All-indices_in, AllPairs-indices_in, Contains-indices_in, is_index-from_Contains}
use Rattle.nd_base.proofs.Laws.Indices.{length-indices_in, map-indices_in}
use Rattle.nd_base.proofs.Laws.IsIndex.{is_index-reverse}
use Rattle.nd_base.proofs.Laws.Lists.{Contains-map}
use Rattle.nd_base.proofs.Laws.Size.{size-reverse}
use Rattle.nd_base.specs.Indices.{below}
use Rattle.nd_dim.specs.AxesInOrder.{is_axis_order, reordered}
use Rattle.nd_dim.proofs.Laws.AxesInOrder.{in_own_order, total, total_in_order}
use Rattle.nd_dim.proofs.Laws.Rearranged.{permutation_from_members}
use Rattle.ndarray_layout.specs.Descends.{Descends}
use Rattle.ndarray_layout.specs.DistinctPlaces.{HasDistinctPlaces}
use Rattle.ndarray_layout.specs.KeepsPlaces.{KeepsPlaces}
use Rattle.ndarray_layout.specs.PermutedView.{reversed_of}
use Rattle.ndarray_layout.specs.View.{View, place_at, view_places}
use Rattle.ndarray_layout.proofs.Laws.DistinctPlaces.{AllPairs-view_places}
use Rattle.ndarray_layout.proofs.Laws.View.{length-view_places}

-- the indices of a shape in two orders
pub indices_permuted : (one other : Order) (shape : List ℕ) → IsPermutation (indices_in one shape) (indices_in other shape)
indices_permuted one other shape =
    permutation_from_members (indices_in one shape) (indices_in other shape) (AllPairs-indices_in one shape)
    (length-indices_in one shape ∙ sym (length-indices_in other shape))
    (λ index here. Contains-indices_in other shape index (is_index-from_Contains one shape index here))

-- the places of a view in two orders
pub places_permuted : (one other : Order) (view : View) → IsPermutation (view_places one view) (view_places other view)
places_permuted one other view = IsPermutation-map (place_at view) (indices_in one view.shape) (indices_in other view.shape)
    (indices_permuted one other view.shape)

-- a view keeps all indices of another one: it has as many, and each of the other is the source of one of its own
pub record KeepsIndices (source : List ℕ → List ℕ) (old new : View) : Type 0 where
  pub count : size new.shape ≡ size old.shape
  pub each : (index : List ℕ) → is_index old.shape index ≡ true
      → (of_new : List ℕ) × (is_index new.shape of_new ≡ true) × (source of_new ≡ index)

-- so its sources are the indices of the other, and its places the other's
module _ (one other : Order) {source : List ℕ → List ℕ} {old new : View} (all : KeepsIndices source old new) where
  pub sources_permuted : IsPermutation (indices_in other old.shape) (map source (indices_in one new.shape))
  sources_permuted =
      permutation_from_members (indices_in other old.shape) (map source (indices_in one new.shape)) (AllPairs-indices_in other old.shape)
      (length-indices_in other old.shape ∙ sym all.count ∙ sym (length-indices_in one new.shape)
      ∙ sym (length-map (indices_in one new.shape) source))
      (λ index here.
      let from = all.each index (is_index-from_Contains other old.shape index here) in
      subst (Contains (map source (indices_in one new.shape))) from.2
      (Contains-map source (indices_in one new.shape) (Contains-indices_in one new.shape from.0 from.1)))

  pub places_of_step_permuted : KeepsPlaces source old new → IsPermutation (view_places other old) (view_places one new)
  places_of_step_permuted keeps =
      subst (IsPermutation (view_places other old))
      (map-map (place_at old) source (indices_in one new.shape)
      ∙ sym (map-indices_in one (place_at new) (λ index. place_at old (source index)) new.shape (λ index here. (keeps index here).1)))
      (IsPermutation-map (place_at old) (indices_in other old.shape) (map source (indices_in one new.shape)) sources_permuted)

-- it does where another function takes its sources back
pub KeepsIndices-taken_back : (source back : List ℕ → List ℕ) (old new : View) → size new.shape ≡ size old.shape
    → ((index : List ℕ) → is_index old.shape index ≡ true → (is_index new.shape (back index) ≡ true) × (source (back index) ≡ index))
    → KeepsIndices source old new
KeepsIndices-taken_back source back old new count taken = record {
  count = count;
  each = λ index here. (back index, (taken index here).0, (taken index here).1);
}

-- the transpose
pub KeepsIndices-reversed_of : (view : View) → KeepsIndices reverse view (reversed_of view)
KeepsIndices-reversed_of view = KeepsIndices-taken_back reverse reverse view (reversed_of view) (size-reverse view.shape)
    (λ index here. (is_index-reverse view.shape index ∙ here, reverse-reverse index))

-- ---- where no two indices alias
-- a place of a view is one of the view that it was made of
place_of_old : (one other : Order) (source : List ℕ → List ℕ) (old new : View) → KeepsPlaces source old new → (z : ℤ)
    → Contains (view_places one new) z → Contains (view_places other old) z
place_of_old one other source old new keeps z here =
    let all = indices_in one new.shape in
    let below : here.0 < length all = omega (arith, length-map all (place_at new), here.1) in
    let index : List ℕ = get_or all here.0 [] in
    let is : is_index new.shape index ≡ true = All-indices_in one new.shape here.0 [] below in
    let at : place_at new index ≡ z = sym (get_or-map (place_at new) all here.0 [] z below) ∙ here.2 in
    subst (Contains (view_places other old)) (sym (keeps index is).1 ∙ at)
    (Contains-map (place_at old) (indices_in other old.shape) (Contains-indices_in other old.shape (source index) (keeps index is).0))

-- then as many indices are enough: the step has each place of the view once
pub places_of_descendant_permuted : (one other : Order) {source : List ℕ → List ℕ} {old new : View} → Descends source old new
    → HasDistinctPlaces old → size new.shape ≡ size old.shape → IsPermutation (view_places one new) (view_places other old)
places_of_descendant_permuted one other {source} {old} {new} kept distinct count =
    permutation_from_members (view_places one new) (view_places other old) (AllPairs-view_places one new (kept.distinct distinct))
    (length-view_places one new ∙ count ∙ sym (length-view_places other old))
    (place_of_old one other source old new kept.places)

-- ---- how many indices a step has
turns : (x y z : ℕ) → x * (y * z) ≡ y * (x * z)
turns x y z = omega (arith, mul_assoc x y z, mul_assoc y x z, ap (λ n. n * z) (mul_comm x y))

size_in_order : (shape axes : List ℕ) → size (reordered 0 axes shape) ≡ total (λ x y. x * y) 1 turns (λ axis. get_or shape axis 0) axes
size_in_order shape [] = refl
size_in_order shape (axis ∷ axes) = ap (λ n. get_or shape axis 0 * n) (size_in_order shape axes)

-- with its axes in another order a shape has as many
pub size-reordered : (shape axes : List ℕ) → is_axis_order (length shape) axes ≡ true → size (reordered 0 axes shape) ≡ size shape
size-reordered shape axes order =
    size_in_order shape axes
    ∙ sym (total_in_order (length shape) axes order (λ x y. x * y) 1 turns (λ axis. get_or shape axis 0))
    ∙ sym (size_in_order shape (below (length shape)))
    ∙ ap size (in_own_order 0 shape)
