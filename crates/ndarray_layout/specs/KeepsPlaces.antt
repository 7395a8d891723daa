-- Views whose indices lie where indices of another view do.
use Rattle.std.specs.Prelude.{◌≡◌, ℕ, pos, true, false, List, [], ◌∷◌, refl}
use Rattle.std.specs.Ordering.{int_eq}
use Rattle.std.proofs.lemmas.Bool.{both_ways}
use Rattle.std.proofs.lemmas.Bool.Decides.{Decides-int_eq}
use Rattle.nd_base.specs.Indices.{is_index}
use Rattle.ndarray_layout.specs.View.{View, place_at}

-- each index that is left stands for an index of the view, its source, and lies where that one does
abbrev pub KeepsPlaces : (List ℕ → List ℕ) → View → View → Type 0
KeepsPlaces source view result = (index : List ℕ) → is_index result.shape index ≡ true
    → (is_index view.shape (source index) ≡ true) × (place_at result index ≡ place_at view (source index))

-- examples
abbrev two_by_three : View
two_by_three = record { start = 0; shape = 2 ∷ 3 ∷ []; strides = pos 3 ∷ pos 1 ∷ [] }

abbrev last_row : View
last_row = record { start = 3; shape = 3 ∷ []; strides = pos 1 ∷ [] }

last_of_last_row : KeepsPlaces (λ index. 1 ∷ index) two_by_three last_row → place_at last_row (2 ∷ []) ≡ pos 5
last_of_last_row keeps = (keeps (2 ∷ []) refl).1

-- the last row does not lie where the first one does
not_the_first_row : KeepsPlaces (λ index. 0 ∷ index) two_by_three last_row → ⊥
not_the_first_row keeps =
    both_ways (int_eq (pos 3) (pos 0)) refl ((Decides-int_eq (pos 3) (pos 0)).1 ((keeps (0 ∷ []) refl).1))

-- nor are there three rows
not_a_third_row : KeepsPlaces (λ index. 2 ∷ index) two_by_three last_row → ⊥
not_a_third_row keeps = both_ways false refl (keeps (0 ∷ []) refl).0
