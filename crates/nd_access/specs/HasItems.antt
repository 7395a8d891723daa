-- What writes leave of an array of which each index has an item to itself: the items of its indices, and the others as they were.
use Rattle.std.specs.Prelude.{◌≡◌, ℕ, pos, true, ◌&&◌, if◌then◌else◌, Option, Some, List, [], ◌∷◌, nat_eq, unwrap_or, refl}
use Rattle.std.proofs.Common.{ap, eq-eqb}
use Rattle.std.proofs.lemmas.Bool.{both_ways}
use Rattle.std.specs.List.{swap}
use Rattle.ndarray_layout.specs.declared.Order.TheVariants.{RowMajor}
use Rattle.ndarray_layout.specs.Indices.{is_index}
use Rattle.ndarray_layout.specs.Signed.{magnitude}
use Rattle.ndarray_layout.specs.View.{place_at, view_places}
use Rattle.nd_access.specs.Written.{KeepsAllBut}
use Rattle.nd_access.specs.Items.{ArrayValue, item_at}

-- the array with the items of two indices of the shape swapped
abbrev pub with_swapped : {T : Type 0} → ArrayValue T → List ℕ → List ℕ → ArrayValue T
with_swapped array one other =
    (if is_index array.view.shape one && is_index array.view.shape other
    then record {
      items = swap array.items (magnitude (place_at array.view one))
          (magnitude (place_at array.view other));
      view = array.view;
    }
    else array)

-- each place that no index has holds the same item in both, and none is past the end of one alone
abbrev pub KeepsSpare : {T : Type 0} → ArrayValue T → ArrayValue T → Type 0
KeepsSpare old new = KeepsAllBut (view_places RowMajor old.view) old.items new.items

-- the view is the same one, each index has the item that is given for it, and every other item is as before
pub record HasItemsOf {T : Type 0} (given : List ℕ → Option T) (old new : ArrayValue T) : Type 0 where
  pub view : new.view ≡ old.view
  pub items : (index : List ℕ) → is_index old.view.shape index ≡ true → item_at new index ≡ given index
  pub spare : KeepsSpare old new

-- examples
abbrev first_of_two : List ℕ → ArrayValue ℕ
first_of_two items = record { items = items; view = record { start = 0; shape = 1 ∷ []; strides = pos 1 ∷ [] } }

another_item : HasItemsOf (λ index. Some 5) (first_of_two (7 ∷ 8 ∷ [])) (first_of_two (6 ∷ 8 ∷ [])) → ⊥
another_item has = both_ways (nat_eq 6 5) refl (eq-eqb 6 5 (ap (λ item. unwrap_or item 0) (has.items (0 ∷ []) refl)))

abbrev two_of_three : ArrayValue ℕ
two_of_three = record { items = 7 ∷ 8 ∷ 9 ∷ []; view = record { start = 0; shape = 2 ∷ []; strides = pos 2 ∷ [] } }

both_ends_swapped : (with_swapped two_of_three (0 ∷ []) (1 ∷ [])).items ≡ 9 ∷ 8 ∷ 7 ∷ []
both_ends_swapped = refl

no_third_index : with_swapped two_of_three (0 ∷ []) (2 ∷ []) ≡ two_of_three
no_third_index = refl
