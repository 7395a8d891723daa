-- The items that are left with their indices: at first all, and then what holds of each.
use Rattle.std.proofs.Common.{◌≡◌, ℕ, List, [], ◌∷◌, length, map, Option, refl, sym, ap, subst, ◌∙◌, arith}
use Rattle.std.specs.List.{All, zip}
use Rattle.std.proofs.lemmas.List.{length-map}
use Rattle.ndarray_layout.specs.declared.Order.TheVariants.{RowMajor}
use Rattle.ndarray_layout.specs.Indices.{indices_in}
use Rattle.ndarray_layout.specs.View.{view_places}
use Rattle.nd_items.specs.IndexedItems.{indexed_items}
use Rattle.nd_access.specs.Items.{ArrayValue, item_at, item_at_place}
use Rattle.nd_access.proofs.Laws.IndexItems.{items_in_order}

zip-map : {X Y : Type 0} (f : X → Y) (xs : List X) → zip xs (map f xs) ≡ map (λ x. (x, f x)) xs
zip-map f [] = refl
zip-map f (x ∷ xs) = ap (λ pairs. (x, f x) ∷ pairs) (zip-map f xs)

-- of the items of an array all are left
module _ {T : Type 0} (array : ArrayValue T) {items : List (Option T)}
    (are : items ≡ map (item_at_place array.items) (view_places RowMajor array.view)) where
  in_order : items ≡ map (item_at array) (indices_in RowMajor array.view.shape)
  in_order = are ∙ items_in_order array

  pub many_at_first : length (indices_in RowMajor array.view.shape) ≡ length items
  many_at_first = sym (ap length in_order ∙ length-map (indices_in RowMajor array.view.shape) (item_at array))

  pub all_at_first : zip (indices_in RowMajor array.view.shape) items ≡ indexed_items array
  all_at_first =
      ap (zip (indices_in RowMajor array.view.shape)) in_order ∙ zip-map (item_at array) (indices_in RowMajor array.view.shape)
