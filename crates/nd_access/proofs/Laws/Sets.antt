-- Items that are set at one place after another, where no place is listed twice, and what that leaves at the indices of a view.
use Rattle.std.proofs.Common.{◌≡◌, ℕ, ℤ, pos, negsuc, true, Option, Some, List, length, get_or, map}
use Rattle.std.proofs.Common.{refl, sym, ap, ◌∙◌}
use Rattle.std.specs.List.{All, Contains}
use Rattle.std.specs.List.Sorted.{IsPermutation}
use Rattle.std.proofs.lemmas.Bool.{cond-true}
use Rattle.std.proofs.lemmas.List.{get_or-map}
use Rattle.std.proofs.lemmas.List.Sorted.{All-permutation, Contains-permutation, IsPermutation-map, IsPermutation-sym}
use Rattle.std.proofs.lemmas.Simd.{map-map}
use Rattle.std.specs.Option.{option_map}
use Rattle.std.specs.Prelude.{if◌then◌else◌, None}
use Rattle.std.proofs.lemmas.Option.{slice_get-get_or}
use Rattle.ndarray_layout.specs.declared.Order.TheVariants.{RowMajor}
use Rattle.ndarray_layout.specs.Bounds.{IsInBounds}
use Rattle.ndarray_layout.specs.Indices.{indices_in, is_index}
use Rattle.ndarray_layout.specs.View.{View, LiesWithin, place_at, view_places}
use Rattle.ndarray_layout.proofs.Laws.Indices.{All-indices_in, Contains-indices_in}
use Rattle.nd_access.specs.HasItems.{HasItemsOf}
use Rattle.nd_access.specs.Items.{ArrayValue, item_at, item_at_place}
use Rattle.nd_access.specs.Written.{HasSet}
pub use Rattle.nd_access.proofs.Laws.MapsTo.{Distinct}

-- ---- what stands at an index
-- what two functions make of a list is the same at each of its items
same_at : {X Y : Type 0} (f g : X → Y) (xs : List X) {x : X} → map f xs ≡ map g xs → Contains xs x → f x ≡ g x
same_at f g xs {x} same (k, below, is) =
    ap f (sym is)
    ∙ sym (get_or-map f xs k x (f x) below)
    ∙ ap (λ ys. get_or ys k (f x)) same
    ∙ get_or-map g xs k x (f x) below
    ∙ ap g is

-- ---- the indices of a shape in some order, each once
abbrev pub AreIndices : List ℕ → List (List ℕ) → Type 0
AreIndices shape indices = IsPermutation indices (indices_in RowMajor shape)

module _ (shape : List ℕ) (indices : List (List ℕ)) (once : AreIndices shape indices) where
  in_row_major : IsPermutation (indices_in RowMajor shape) indices
  in_row_major = IsPermutation-sym indices (indices_in RowMajor shape) once

  -- each is an index of the shape
  pub All-indices : All (λ index. is_index shape index ≡ true) indices
  All-indices = All-permutation (λ index. is_index shape index ≡ true) (indices_in RowMajor shape) indices in_row_major
      (All-indices_in RowMajor shape)

  -- and each index of the shape is one of them
  pub Contains-indices : (index : List ℕ) → is_index shape index ≡ true → Contains indices index
  Contains-indices index here = Contains-permutation (indices_in RowMajor shape) indices index in_row_major
      (Contains-indices_in RowMajor shape index here)

-- their places are those of the view
pub places_moved : (view : View) (indices : List (List ℕ)) → AreIndices view.shape indices
    → IsPermutation (map (place_at view) indices) (view_places RowMajor view)
places_moved view indices once = IsPermutation-map (place_at view) indices (indices_in RowMajor view.shape) once

pub has_items : {T : Type 0} (given : List ℕ → Option T) {old new : ArrayValue T} (indices : List (List ℕ))
    → AreIndices old.view.shape indices → new.view ≡ old.view
    → HasSet (map (place_at old.view) indices) (map given indices) old.items new.items → HasItemsOf given old new
has_items given {old} {new} indices once same left = record {
  view = same;
  items = λ index here.
      ap (λ view. if is_index view.shape index then item_at_place new.items (place_at view index) else None) same
      ∙ cond-true (is_index old.view.shape index) (item_at_place new.items (place_at old.view index)) None here
      ∙ same_at (λ one. item_at_place new.items (place_at old.view one)) given indices
      (sym (map-map (item_at_place new.items) (place_at old.view) indices) ∙ left.written)
      (Contains-indices old.view.shape indices once index here);
  spare = λ place none. left.others place (λ here. none (Contains-permutation (map (place_at old.view) indices)
      (view_places RowMajor old.view) (pos place) (places_moved old.view indices once) here));
}

-- an item of which a copy is made is the copy
pub copied : {T : Type 0} (given : List ℕ → Option T) {old new : ArrayValue T}
    → HasItemsOf (λ index. option_map (λ x. x) (given index)) old new
    → HasItemsOf given old new
copied {T} given has = record { view = has.view; items = λ index here. has.items index here ∙ same (given index); spare = has.spare }
  where
    same : (item : Option T) → option_map (λ x. x) item ≡ item
    same None = refl
    same (Some x) = refl

-- each item of an array is overwritten
pub overwritten : {T : Type 0} (item : T) {old new : ArrayValue T} → LiesWithin (length old.items) old.view
    → HasItemsOf (λ index. option_map (λ x. item) (item_at old index)) old new → HasItemsOf (λ index. Some item) old new
overwritten {T} item {old} within has = record {
  view = has.view;
  items = λ index here.
      has.items index here
      ∙ ap (option_map (λ x. item))
      (cond-true (is_index old.view.shape index) (item_at_place old.items (place_at old.view index)) None here)
      ∙ there (place_at old.view index) (within index here);
  spare = has.spare;
}
  where
    there : (z : ℤ) → IsInBounds (length old.items) z → option_map (λ x. item) (item_at_place old.items z) ≡ Some item
    there (pos place) below = ap (option_map (λ x. item)) (slice_get-get_or old.items place item below)
    there (negsuc n) below = absurd below
