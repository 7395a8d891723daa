-- What calls of a closure at one place after another leave at the indices of a view, where no place is listed twice.
use Rattle.std.proofs.Common.{◌≡◌, ℕ, ℤ, pos, true, Option, List, length, map, refl, sym, ap}
use Rattle.std.proofs.Common.{subst, ◌∙◌}
use Rattle.std.specs.List.{All, Contains}
use Rattle.std.specs.Option.{option_map}
use Rattle.std.proofs.lemmas.List.{length-map}
use Rattle.std.proofs.lemmas.List.Sorted.{Contains-permutation}
use Rattle.std.proofs.lemmas.Simd.{map-map}
use Rattle.ndarray_layout.specs.declared.Order.TheVariants.{RowMajor}
use Rattle.ndarray_layout.specs.Indices.{is_index}
use Rattle.ndarray_layout.specs.View.{place_at, view_places}
use Rattle.nd_loops.specs.AnyOrder.{CallsMakeArrayInSomeOrder}
use Rattle.nd_access.specs.HasItems.{HasItemsOf, KeepsSpare}
use Rattle.nd_access.specs.Mapped.{CallsMake}
use Rattle.nd_access.specs.Items.{ArrayValue, item_at, item_at_place}
use Rattle.nd_access.specs.Written.{Maps}
use Rattle.nd_access.proofs.Laws.Sets.{All-indices, AreIndices, has_items, places_moved}
pub use Rattle.nd_access.proofs.Laws.MapsTo.{acted, callable_at_first, callable_at_others}
use Rattle.nd_access.proofs.Laws.IndexItems.{items_at}

-- ---- all places of an array, in some order of its indices
abbrev pub changed : {T : Type 0} → ArrayValue T → List T → ArrayValue T
changed old new = record { items = new; view = old.view }

module _ {T : Type 0} (old : ArrayValue T) (new : List T) (indices : List (List ℕ)) (once : AreIndices old.view.shape indices)
    {places : List ℤ} (are : places ≡ map (place_at old.view) indices) where
  -- the items of all indices, in that order of these
  abbrev all_items : {X : Type 0} → ArrayValue X → List (Option X)
  all_items array = map (item_at array) indices

  here : All (λ index. is_index old.view.shape index ≡ true) indices
  here = All-indices old.view.shape indices once

  made_in_order : map (item_at_place new) places ≡ all_items (changed old new)
  made_in_order = ap (map (item_at_place new)) are ∙ items_at (changed old new) indices here

  given_in_order : {X : Type 0} (source : ArrayValue X) {given : List (Option X)} → old.view.shape ≡ source.view.shape
      → given ≡ map (item_at_place source.items) (map (place_at source.view) indices) → given ≡ all_items source
  given_in_order source same these =
      these ∙ items_at source indices (subst (λ shape. All (λ index. is_index shape index ≡ true) indices) same here)

  module _ {F X : Type 0} (call : F → X → T → F → Type 0) {f : F} (source : ArrayValue X) (same : old.view.shape ≡ source.view.shape)
      {given : List (Option X)} (these : given ≡ map (item_at_place source.items) (map (place_at source.view) indices)) where
    pub ran_over : Maps call f places given old.items new → CallsMake call f (all_items source) (all_items (changed old new))
    ran_over run =
        subst (λ xs. CallsMake call f xs (all_items (changed old new))) (given_in_order source same these)
        (subst (CallsMake call f given) made_in_order run.ran)

    pub spare : Maps call f places given old.items new → KeepsSpare old (changed old new)
    spare run = λ place none. run.others place (λ there. none (Contains-permutation (map (place_at old.view) indices)
        (view_places RowMajor old.view) (pos place) (places_moved old.view indices once)
        (subst (λ zs. Contains zs (pos place)) are there)))

    pub mapped : Maps call f places given old.items new
        → (h : X → T) → ((x : X) (y : T) (f' : F) → call f x y f' → (f' ≡ f) × (y ≡ h x))
        → HasItemsOf (λ index. option_map h (item_at source index)) old (changed old new)
    mapped run h acts =
        let ran = ran_over run in
        let count : length (all_items source) ≡ length (all_items (changed old new)) =
        length-map indices (item_at source) ∙ sym (length-map indices (item_at (changed old new))) in
        let made = acted call h acts (all_items source) (all_items (changed old new)) f ran.last refl count ran.calls in
        has_items (λ index. option_map h (item_at source index)) indices once refl (record {
          written =
              items_at (changed old new) indices here
              ∙ made
              ∙ map-map (option_map h) (item_at source) indices;
          others = λ place none. run.others place (λ there. none (subst (λ zs. Contains zs (pos place)) are there));
        })

    pub made_in_some_order : Maps call f places given old.items new → CallsMakeArrayInSomeOrder call f source (changed old new)
    made_in_some_order run = record { indices = indices; each_once = once; ran = ran_over run }
