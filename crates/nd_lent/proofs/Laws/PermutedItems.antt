-- Laws of the items of an array that a step makes which keeps all indices: in row-major order they are those of the other one, in some
-- order. So what doesn't depend on the order, as a sum or a count, is the same of both.
use Rattle.std.proofs.Common.{◌≡◌, ℕ, Option, List, map, sym, ap, subst, ◌∙◌}
use Rattle.std.specs.List.{sum_by}
use Rattle.std.specs.List.Sorted.{IsPermutation}
use Rattle.std.proofs.lemmas.List.Sorted.{IsPermutation-map, sum_by-IsPermutation}
use Rattle.ndarray_layout.specs.declared.Order.{Order}
use Rattle.ndarray_layout.specs.declared.Order.TheVariants.{RowMajor}
use Rattle.ndarray_layout.specs.Descends.{Descends}
use Rattle.ndarray_layout.specs.DistinctPlaces.{HasDistinctPlaces}
use Rattle.ndarray_layout.specs.Size.{size}
use Rattle.ndarray_layout.specs.View.{View, view_places}
use Rattle.ndarray_layout.proofs.Laws.Permuted.{KeepsIndices, places_of_descendant_permuted, places_of_step_permuted, places_permuted}
use Rattle.nd_lent.specs.ArrayOfStep.{IsArrayOfStep}
use Rattle.nd_access.specs.Items.{ArrayValue, item_at_place}

-- the items of all indices, in an order
abbrev pub items_by : {T : Type 0} → Order → ArrayValue T → List (Option T)
items_by order array = map (item_at_place array.items) (view_places order array.view)

-- both orders of an array have the same items
pub items_permuted : {T : Type 0} (one other : Order) (array : ArrayValue T) → IsPermutation (items_by one array) (items_by other array)
items_permuted one other array =
    IsPermutation-map (item_at_place array.items) (view_places one array.view) (view_places other array.view)
    (places_permuted one other array.view)

-- so has an array over the same items whose view has the same places
pub items_of_permuted_places : {T : Type 0} (one other : Order) (old new : ArrayValue T) → new.items ≡ old.items
    → IsPermutation (view_places one new.view) (view_places other old.view) → IsPermutation (items_by one new) (items_by other old)
items_of_permuted_places one other old new same permuted =
    subst (λ items. IsPermutation (map (item_at_place items) (view_places one new.view)) (items_by other old)) (sym same)
    (IsPermutation-map (item_at_place old.items) (view_places one new.view) (view_places other old.view) permuted)

-- a step over items of which no two indices share one, to a shape of as many indices
pub items_of_step_permuted : {T : Type 0} (one other : Order) {source : List ℕ → List ℕ} {step : View → View} {old new : ArrayValue T}
    → IsArrayOfStep Descends source step old new → HasDistinctPlaces old.view → size new.view.shape ≡ size old.view.shape
    → IsPermutation (items_by one new) (items_by other old)
items_of_step_permuted one other {old = old} {new = new} made distinct count =
    items_of_permuted_places one other old new made.items.items (places_of_descendant_permuted one other made.kept distinct count)

-- a sum over them is the same
pub sum_of_step : {T : Type 0} (f : Option T → ℕ) {source : List ℕ → List ℕ} {step : View → View} {old new : ArrayValue T}
    → IsArrayOfStep Descends source step old new → HasDistinctPlaces old.view → size new.view.shape ≡ size old.view.shape
    → sum_by f (items_by RowMajor new) ≡ sum_by f (items_by RowMajor old)
sum_of_step f {old = old} {new = new} made distinct count =
    sym (sum_by-IsPermutation f (items_by RowMajor new) (items_by RowMajor old)
    (items_of_step_permuted RowMajor RowMajor made distinct count))

-- also where indices share an item, if each index is the source of one: so it is of a transpose
pub sum_of_kept : {T : Type 0} (f : Option T → ℕ) {source : List ℕ → List ℕ} {step : View → View} {old new : ArrayValue T}
    → IsArrayOfStep Descends source step old new → KeepsIndices source old.view (step old.view)
    → sum_by f (items_by RowMajor new) ≡ sum_by f (items_by RowMajor old)
sum_of_kept f {source} {step} {old} {new} made all =
    let each : KeepsIndices source old.view new.view = subst (KeepsIndices source old.view) (sym made.view) all in
    let same : items_by RowMajor new ≡ map (item_at_place old.items) (view_places RowMajor new.view) =
    ap (λ items. map (item_at_place items) (view_places RowMajor new.view)) made.items.items in
    ap (sum_by f) same
    ∙ sum_by-IsPermutation f (items_by RowMajor old) (map (item_at_place old.items) (view_places RowMajor new.view))
    (IsPermutation-map (item_at_place old.items) (view_places RowMajor old.view) (view_places RowMajor new.view)
    (places_of_step_permuted RowMajor RowMajor each made.kept.places))
