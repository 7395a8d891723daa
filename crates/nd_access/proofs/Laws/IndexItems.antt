-- Laws of the items of all indices: they are those at the places of the view, in the same order, and each is that of an index.
use Rattle.std.proofs.Common.{◌≡◌, ℕ, ◌<◌, true, Option, List, [], length, get_or, map, sym, subst, ◌∙◌, arith}
use Rattle.std.proofs.lemmas.Bool.{cond-true}
use Rattle.std.proofs.lemmas.List.{get_or-map, length-map}
use Rattle.std.proofs.lemmas.List.Elements.{All-contains, All-map}
use Rattle.std.proofs.lemmas.Simd.{map-map}
use Rattle.std.specs.List.{All, Contains}
use Rattle.std.specs.Prelude.{None}
use Rattle.ndarray_layout.specs.declared.Order.{Order}
use Rattle.ndarray_layout.specs.declared.Order.TheVariants.{RowMajor}
use Rattle.ndarray_layout.specs.Indices.{indices_in, is_index}
use Rattle.ndarray_layout.specs.View.{place_at, view_places}
use Rattle.ndarray_layout.proofs.Laws.Indices.{All-indices_in, Contains-indices_in}
use Rattle.ndarray_layout.proofs.Laws.Lists.{Contains-map, map_same}
use Rattle.nd_access.specs.Items.{ArrayValue, item_at, item_at_place}

-- the items at the places of indices are those of the indices
pub items_at : {T : Type 0} (array : ArrayValue T) (indices : List (List ℕ)) → All (λ index. is_index array.view.shape index ≡ true) indices
    → map (item_at_place array.items) (map (place_at array.view) indices) ≡ map (item_at array) indices
items_at {T} array indices are =
    let at : List ℕ → Option T = λ index. item_at_place array.items (place_at array.view index) in
    map-map (item_at_place array.items) (place_at array.view) indices
    ∙ map_same at (item_at array) indices (λ k d below.
    sym (cond-true (is_index array.view.shape (get_or indices k d)) (at (get_or indices k d)) None (are k d below)))

-- so are those at the places of a view, in any order
pub items_in : {T : Type 0} (order : Order) (array : ArrayValue T)
    → map (item_at_place array.items) (view_places order array.view) ≡ map (item_at array) (indices_in order array.view.shape)
items_in order array = items_at array (indices_in order array.view.shape) (All-indices_in order array.view.shape)

pub items_in_order : {T : Type 0} (array : ArrayValue T)
    → map (item_at_place array.items) (view_places RowMajor array.view) ≡ map (item_at array) (indices_in RowMajor array.view.shape)
items_in_order array = items_in RowMajor array

-- the item of an index is one of them
pub Contains-item_at : {T : Type 0} (array : ArrayValue T) (index : List ℕ) → is_index array.view.shape index ≡ true
    → Contains (map (item_at_place array.items) (view_places RowMajor array.view)) (item_at array index)
Contains-item_at array index here =
    subst (λ items. Contains items (item_at array index)) (sym (items_in_order array))
    (Contains-map (item_at array) (indices_in RowMajor array.view.shape) (Contains-indices_in RowMajor array.view.shape index here))

-- an index of the shape that has an item
pub record IsIndexOf {T : Type 0} (array : ArrayValue T) (sought : Option T) (index : List ℕ) : Type 0 where
  pub of_shape : is_index array.view.shape index ≡ true
  pub item : item_at array index ≡ sought

-- and each of them has an index
pub index_of_item : {T : Type 0} (array : ArrayValue T) (item : Option T)
    → Contains (map (item_at_place array.items) (view_places RowMajor array.view)) item → (index : List ℕ) × IsIndexOf array item index
index_of_item array item here =
    let indices = indices_in RowMajor array.view.shape in
    let listed = subst (λ items. Contains items item) (items_in_order array) here in
    let below : listed.0 < length indices = omega (arith, length-map indices (item_at array), listed.1) in (
      get_or indices listed.0 [],
      record {
        of_shape = All-indices_in RowMajor array.view.shape listed.0 [] below;
        item = sym (get_or-map (item_at array) indices listed.0 [] item below) ∙ listed.2;
      },
    )

-- what holds of the item of each index holds of all of them
pub All-by_index : {T : Type 0} (P : Option T → Type 0) (array : ArrayValue T)
    → ((index : List ℕ) → is_index array.view.shape index ≡ true → P (item_at array index))
    → All P (map (item_at_place array.items) (view_places RowMajor array.view))
All-by_index P array each =
    let indices = indices_in RowMajor array.view.shape in
    subst (All P) (sym (items_in_order array))
    (All-map P (item_at array) indices (λ k d below. each (get_or indices k d) (All-indices_in RowMajor array.view.shape k d below)))

-- and the other way round
pub of_each_index : {T : Type 0} (P : Option T → Type 0) (array : ArrayValue T) (index : List ℕ)
    → All P (map (item_at_place array.items) (view_places RowMajor array.view)) → is_index array.view.shape index ≡ true
    → P (item_at array index)
of_each_index P array index all here =
    All-contains P (map (item_at_place array.items) (view_places RowMajor array.view)) (item_at array index) all
    (Contains-item_at array index here)
