-- Views that place no two of their indices at one element.
use Rattle.std.specs.Prelude.{◌≡◌, ℕ, pos, true, List, [], ◌∷◌, nat_eq, slice_index, refl}
use Rattle.std.proofs.Common.{ap, eq-eqb}
use Rattle.std.proofs.lemmas.Bool.{both_ways}
use Rattle.nd_base.specs.Indices.{is_index}
use Rattle.ndarray_layout.specs.View.{View, place_at}

-- two indices of the shape with one place are one index
abbrev pub HasDistinctPlaces : View → Type 0
HasDistinctPlaces view = (index other : List ℕ) → is_index view.shape index ≡ true → is_index view.shape other ≡ true
    → place_at view index ≡ place_at view other → index ≡ other

-- example: along equal strides the indices (0, 1) and (1, 0) lie at one place
shared : HasDistinctPlaces (record { start = 3; shape = 2 ∷ 2 ∷ []; strides = pos 1 ∷ pos 1 ∷ [] }) → ⊥
shared distinct =
    both_ways (nat_eq 0 1) refl (eq-eqb 0 1 (ap (λ index. slice_index index 0) (distinct (0 ∷ 1 ∷ []) (1 ∷ 0 ∷ []) refl refl refl)))
