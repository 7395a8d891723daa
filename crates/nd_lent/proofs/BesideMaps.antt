-- What calls of a closure at the items of an array and at what stands beside each leave at its indices, in row-major order.
use Rattle.std.proofs.Common.{◌≡◌, ℕ, ℤ, Option, List, length, map, refl, sym, ap, subst, ◌∙◌}
use Rattle.std.specs.Option.{option_map, option_zip}
use Rattle.std.proofs.lemmas.List.{length-map}
use Rattle.std.proofs.lemmas.List.Sorted.{IsPermutation-refl}
use Rattle.std.proofs.lemmas.Simd.{map-map, zip2_of_maps}
use Rattle.ndarray_layout.specs.declared.Order.TheVariants.{RowMajor}
use Rattle.ndarray_layout.specs.Indices.{indices_in}
use Rattle.ndarray_layout.specs.View.{place_at, view_places}
use Rattle.nd_access.specs.HasItems.{HasItemsOf}
use Rattle.nd_access.specs.Items.{ArrayValue, item_at, item_at_place}
use Rattle.nd_access.specs.Mapped.{CallsMake, row_major_items}
use Rattle.nd_access.specs.Written.{Maps}
use Rattle.nd_loops.specs.Beside.{items_beside}
use Rattle.nd_loops.specs.LentLayout.{LentLayout, array_of_lent, both_at}
use Rattle.nd_loops.specs.ZippedTwo.{row_major_triples}
use Rattle.nd_access.proofs.Laws.IndexItems.{items_in}
use Rattle.nd_access.proofs.Laws.MapsTo.{acted}
use Rattle.nd_lent.proofs.PartMaps.{changed}
use Rattle.nd_access.proofs.Laws.Sets.{has_items}
use Rattle.nd_lent.specs.Zip.{item_beside, row_major_beside, zipped_beside}

-- ---- items that are given for each index
module _ {F X T : Type 0} (call : F → X → T → F → Type 0) (old : ArrayValue T) (new : List T) (at : List ℕ → Option X) where
  abbrev indices : List (List ℕ)
  indices = indices_in RowMajor old.view.shape

  abbrev places : List ℤ
  places = view_places RowMajor old.view

  made_at : {f : F} → Maps call f places (map at indices) old.items new
      → (h : X → T) → ((x : X) (y : T) (f' : F) → call f x y f' → (f' ≡ f) × (y ≡ h x))
      → HasItemsOf (λ index. option_map h (at index)) old (changed old new)
  made_at {f} run h acts =
      let count : length (map at indices) ≡ length (map (item_at_place new) places) =
      length-map indices at ∙ sym (length-map places (item_at_place new) ∙ length-map indices (place_at old.view)) in
      let made = acted call h acts (map at indices) (map (item_at_place new) places) f run.ran.last refl count run.ran.calls in
      has_items (λ index. option_map h (at index)) indices (IsPermutation-refl indices) refl (record {
        written = made ∙ map-map (option_map h) at indices;
        others = run.others;
      })

-- ---- what stands beside the items of an array, by their indices
module _ {T V : Type 0} (array : ArrayValue T) (at : List ℕ → Option V) where
  abbrev all : List ℤ
  all = view_places RowMajor array.view

  pub in_order : items_beside array.items all (map at (indices_in RowMajor array.view.shape)) ≡ row_major_beside array at
  in_order = zip2_of_maps option_zip (item_at array) at (indices_in RowMajor array.view.shape) (items_in RowMajor array) refl

  module _ {F : Type 0} (call : F → T × V → T → F → Type 0) {f : F} (new : List T)
      (run : Maps call f all (items_beside array.items all (map at (indices_in RowMajor array.view.shape))) array.items new) where
    run_in_order : Maps call f all (row_major_beside array at) array.items new
    run_in_order = subst (λ given. Maps call f all given array.items new) in_order run

    pub ran_in_order : CallsMake call f (row_major_beside array at) (row_major_items (changed array new))
    ran_in_order = subst (CallsMake call f (row_major_beside array at)) (items_in RowMajor (changed array new)) run_in_order.ran

    pub zipped_in_order : (h : T × V → T) → ((given : T × V) (f' : F) (x' : T) → call f given x' f' → (f' ≡ f) × (x' ≡ h given))
        → HasItemsOf (zipped_beside h array at) array (changed array new)
    zipped_in_order h acts = made_at call array new (item_beside array at) run_in_order h (λ given x' f' called. acts given f' x' called)

-- ---- two arrays beside it, of its shape
abbrev both : {U V : Type 0} → ArrayValue U → ArrayValue V → List ℕ → Option (U × V)
both other third index = option_zip (item_at other index) (item_at third index)

module _ {T U V : Type 0} (array : ArrayValue T) {other : ArrayValue U} {third : ArrayValue V} (one : LentLayout U) (two : LentLayout V)
    (is : array_of_lent one ≡ other) (are : array_of_lent two ≡ third) where
  pub triples_beside : array.view.shape ≡ other.view.shape → array.view.shape ≡ third.view.shape
      → row_major_beside array (both_at one two) ≡ row_major_triples array other third
  triples_beside same also =
      let all = indices_in RowMajor array.view.shape in
      ap (λ one. row_major_beside array (both one (array_of_lent two))) is
      ∙ ap (λ two. row_major_beside array (both other two)) are
      ∙ sym (zip2_of_maps option_zip (item_at array) (both other third) all refl
      (zip2_of_maps option_zip (item_at other) (item_at third) all
      (ap (λ shape. map (item_at other) (indices_in RowMajor shape)) (sym same))
      (ap (λ shape. map (item_at third) (indices_in RowMajor shape)) (sym also))))

  pub zipped_of_two : (h : T × (U × V) → T) {new : ArrayValue T} → HasItemsOf (zipped_beside h array (both_at one two)) array new
      → HasItemsOf (zipped_beside h array (both other third)) array new
  zipped_of_two h {new} has =
      subst (λ one. HasItemsOf (zipped_beside h array (both one third)) array new) is
      (subst (λ two. HasItemsOf (zipped_beside h array (both (array_of_lent one) two)) array new) are has)
