-- Laws of the least or the greatest of the items of an array: an index has it, and no index has one that comes before it.
use Rattle.std.proofs.Common.{◌≡◌, ℕ, ◌≤◌, Bool, true, false, Option, Some, None, List, map, IfSome}
use Rattle.std.specs.Option.{option_map_or}
use Rattle.std.specs.Ordering.{is_gt, nat_cmp}
use Rattle.std.proofs.lemmas.Map.Keys.{le_from_not_gt}
use Rattle.std.proofs.Common.{arith}
use Rattle.ndarray_layout.specs.declared.Order.TheVariants.{RowMajor}
use Rattle.ndarray_layout.specs.Indices.{is_index}
use Rattle.ndarray_layout.specs.View.{view_places}
use Rattle.nd_lent.specs.Extremes.{IsFirstOf}
use Rattle.nd_access.specs.Items.{ArrayValue, item_at, item_at_place}
use Rattle.nd_access.proofs.Laws.IndexItems.{index_of_item, of_each_index}

module _ {T : Type 0} (comes_before : T → T → Bool) (array : ArrayValue T) where
  -- an index has it
  pub index_of_first : (found : Option T)
      → IfSome found (IsFirstOf comes_before (map (item_at_place array.items) (view_places RowMajor array.view)))
      → IfSome found (λ first. (index : List ℕ) × (is_index array.view.shape index ≡ true) × (item_at array index ≡ Some first))
  index_of_first None is = tt
  index_of_first (Some first) is =
      let here = index_of_item array (Some first) is.item in
      (here.0, here.1.of_shape, here.1.item)

  -- no index has one that comes before it
  pub none_before_first : (found : Option T)
      → IfSome found (IsFirstOf comes_before (map (item_at_place array.items) (view_places RowMajor array.view)))
      → IfSome found (λ first. (index : List ℕ) → is_index array.view.shape index ≡ true
      → option_map_or (λ other. comes_before other first) (item_at array index) false ≡ false)
  none_before_first None is = tt
  none_before_first (Some first) is = λ index here.
      of_each_index (λ item. option_map_or (λ other. comes_before other first) item false ≡ false) array index is.none_before here

-- of numbers none is greater than the greatest
pub none_above_greatest : (array : ArrayValue ℕ) (found : Option ℕ)
    → IfSome found (IsFirstOf (λ one other. is_gt (nat_cmp one other)) (map (item_at_place array.items) (view_places RowMajor array.view)))
    → IfSome found (λ greatest. (index : List ℕ) → is_index array.view.shape index ≡ true
    → option_map_or (λ n. n) (item_at array index) 0 ≤ greatest)
none_above_greatest array None is = tt
none_above_greatest array (Some greatest) is = λ index here.
    by (item_at array index) (none_before_first (λ one other. is_gt (nat_cmp one other)) array (Some greatest) is index here)
  where
    by : (item : Option ℕ) → option_map_or (λ other. is_gt (nat_cmp other greatest)) item false ≡ false
        → option_map_or (λ n. n) item 0 ≤ greatest
    by None none = omega arith
    by (Some n) none = le_from_not_gt n greatest none
