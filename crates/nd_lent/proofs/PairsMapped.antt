-- What calls of a closure at the items of two arrays side by side leave at the indices of the first.
use Rattle.std.proofs.Common.{◌≡◌, ℕ, ℤ, pos, true, Option, Some, None, List, length, map, refl, sym, ap, subst, ◌∙◌}
use Rattle.std.specs.List.{All, Contains, FoldsTo, zip}
use Rattle.std.specs.List.Sorted.{IsPermutation}
use Rattle.std.specs.Option.{option_map, option_zip}
use Rattle.std.proofs.lemmas.List.{length-map}
use Rattle.std.proofs.lemmas.List.Sorted.{Contains-permutation, IsPermutation-map}
use Rattle.std.proofs.lemmas.Option.{none-some}
use Rattle.std.proofs.lemmas.Simd.{map-map, zip2_of_maps}
use Rattle.ndarray_layout.specs.declared.Order.TheVariants.{RowMajor}
use Rattle.ndarray_layout.specs.Indices.{indices_in, is_index}
use Rattle.ndarray_layout.specs.View.{place_at, view_places}
use Rattle.ndarray_layout.proofs.Laws.Lists.{Contains-map}
use Rattle.nd_loops.specs.AnyOrder.{CallsMakeInSomeOrder}
use Rattle.nd_access.specs.HasItems.{HasItemsOf, KeepsSpare}
use Rattle.nd_access.specs.Items.{ArrayValue, item_at, item_at_place}
use Rattle.nd_access.specs.Mapped.{Makes, row_major_items}
use Rattle.nd_access.specs.Zipped.{pairs_of, row_major_pairs}
use Rattle.nd_access.specs.Pairs.{ZipsAt}
use Rattle.nd_access.proofs.Laws.IndexItems.{items_at}
use Rattle.nd_access.proofs.Laws.MapsTo.{acted}
use Rattle.nd_lent.proofs.Laws.WrittenCount.{same_count}
use Rattle.nd_loops.proofs.Laws.Moved.{zip_of_maps}
use Rattle.nd_lent.proofs.PartMaps.{changed, some_given}
use Rattle.nd_access.proofs.Laws.Sets.{All-indices, Contains-indices, has_items, places_moved}

-- ---- what they leave at the indices
module _ {F T U : Type 0} (call : F → T × U → T → F → Type 0) {f : F} (old : ArrayValue T) (new : List T) (other : ArrayValue U)
    (same : old.view.shape ≡ other.view.shape) (has : ZipsAt call f old.view other.items other.view old.items new) where
  abbrev indices : List (List ℕ)
  indices = has.indices

  abbrev places : List ℤ
  places = map (place_at old.view) indices

  abbrev given : List (Option (T × U))
  given = pairs_of (map (item_at_place old.items) places) (map (item_at_place other.items) (map (place_at other.view) indices))

  abbrev pair_at : List ℕ → Option (T × U)
  pair_at index = option_zip (item_at old index) (item_at other index)

  here : All (λ index. is_index old.view.shape index ≡ true) indices
  here = All-indices old.view.shape indices has.each_once

  given_at : given ≡ map pair_at indices
  given_at = zip2_of_maps option_zip (item_at old) (item_at other) indices (items_at old indices here)
      (items_at other indices (subst (λ shape. All (λ index. is_index shape index ≡ true) indices) same here))

  as_many : length given ≡ length (map (item_at_place new) places)
  as_many =
      ap length given_at
      ∙ length-map indices pair_at
      ∙ sym (length-map places (item_at_place new) ∙ length-map indices (place_at old.view))

  pub spare : KeepsSpare old (changed old new)
  spare place none = has.run.others place (λ there. none (Contains-permutation places (view_places RowMajor old.view) (pos place)
      (places_moved old.view indices has.each_once) there))

  pub zipped : (h : T × U → T) → ((x : T × U) (y : T) (f' : F) → call f x y f' → (f' ≡ f) × (y ≡ h x))
      → HasItemsOf (λ index. option_map h (pair_at index)) old (changed old new)
  zipped h acts =
      let made = acted call h acts given (map (item_at_place new) places) f has.run.ran.last refl as_many has.run.ran.calls in
      has_items (λ index. option_map h (pair_at index)) indices has.each_once refl (record {
        written = made ∙ ap (map (option_map h)) given_at ∙ map-map (option_map h) pair_at indices;
        others = has.run.others;
      })

  -- the calls are made at the pairs of all indices, in some order
  pub some_order : CallsMakeInSomeOrder call f (row_major_pairs old other) (row_major_items (changed old new))
  some_order =
      let all = indices_in RowMajor old.view.shape in
      let both : List ℕ → Option (T × U) × Option T = λ index. (pair_at index, item_at (changed old new) index) in
      let pairs : zip (row_major_pairs old other) (row_major_items (changed old new)) ≡ map both all =
      ap (λ pairs. zip pairs (row_major_items (changed old new)))
      (zip2_of_maps option_zip (item_at old) (item_at other) all refl
      (ap (λ shape. map (item_at other) (indices_in RowMajor shape)) (sym same)))
      ∙ zip_of_maps pair_at (item_at (changed old new)) all in
      let ran : zip given (map (item_at_place new) places) ≡ map both indices =
      ap (λ pairs. zip pairs (map (item_at_place new) places)) given_at
      ∙ ap (zip (map pair_at indices)) (items_at (changed old new) indices here)
      ∙ zip_of_maps pair_at (item_at (changed old new)) indices in
      record {
        pairs = map both indices;
        each_once = subst (IsPermutation (map both indices)) (sym pairs) (IsPermutation-map both indices all has.each_once);
        last = has.run.ran.last;
        calls = subst (λ pairs. FoldsTo (Makes call) f pairs has.run.ran.last) ran has.run.ran.calls;
      }
