-- An array that a step makes of another one: the same items, by another view.
use Rattle.std.specs.Prelude.{◌≡◌, ℕ, pos, negsuc, true, List, [], ◌∷◌, nat_eq, unwrap_or, refl}
use Rattle.std.proofs.Common.{ap, eq-eqb}
use Rattle.std.proofs.lemmas.Bool.{both_ways}
use Rattle.ndarray_layout.specs.Descends.{IsViewOf}
use Rattle.ndarray_layout.specs.Indices.{is_index}
use Rattle.ndarray_layout.specs.View.{View}
use Rattle.nd_access.specs.Items.{ArrayValue, item_at}

-- the same items, and each index of the new view has the item of the index of the old one that it stands for, its source
pub record ShowsItemsOf {T : Type 0} (source : List ℕ → List ℕ) (old new : ArrayValue T) : Type 0 where
  pub items : new.items ≡ old.items
  pub shown : (index : List ℕ) → is_index new.view.shape index ≡ true
      → (is_index old.view.shape (source index) ≡ true) × (item_at new index ≡ item_at old (source index))

-- an array with the items of another one, by the view that a step makes of its view: each index has the item of its source, and the new
-- view keeps what the step keeps of the old one
pub record IsArrayOfStep {T : Type 0} (keeps : (List ℕ → List ℕ) → View → View → Type 0) (source : List ℕ → List ℕ) (step : View → View)
    (old new : ArrayValue T) : Type 0 where
  pub view : new.view ≡ step old.view
  pub items : ShowsItemsOf source old new
  pub kept : keeps source old.view new.view

-- examples
abbrev row : ArrayValue ℕ
row = record { items = 7 ∷ 8 ∷ 9 ∷ []; view = record { start = 0; shape = 3 ∷ []; strides = pos 1 ∷ [] } }

abbrev backwards : ArrayValue ℕ
backwards = record { items = 7 ∷ 8 ∷ 9 ∷ []; view = record { start = 2; shape = 3 ∷ []; strides = negsuc 0 ∷ [] } }

-- the last item comes first, so no index stands for itself
each_for_itself : ShowsItemsOf (λ index. index) row backwards → ⊥
each_for_itself shows =
    both_ways (nat_eq 9 7) refl (eq-eqb 9 7 (ap (λ item. unwrap_or item 0) ((shows.shown (0 ∷ []) refl).1)))

not_by_the_step : IsArrayOfStep IsViewOf (λ index. index) (λ view. view) row backwards → ⊥
not_by_the_step is = both_ways (nat_eq 2 0) refl (eq-eqb 2 0 (ap (λ view. view.start) is.view))
