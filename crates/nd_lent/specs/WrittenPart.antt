-- What is left of an array where a part of it was written: the items of the part's indices, and every other item as before.
use Rattle.std.specs.Prelude.{◌≡◌, ℕ, pos, true, Option, Some, List, [], ◌∷◌, nat_eq, unwrap_or, refl}
use Rattle.std.proofs.Common.{◌≢◌, ap, eq-eqb}
use Rattle.std.proofs.lemmas.Bool.{both_ways}
use Rattle.ndarray_layout.specs.Indices.{is_index}
use Rattle.nd_access.specs.HasItems.{KeepsSpare}
use Rattle.nd_access.specs.Items.{ArrayValue, item_at}

-- an index of the array is that of no index of the part
abbrev pub IsOutside : (List ℕ → List ℕ) → List ℕ → List ℕ → Type 0
IsOutside source part_shape index = (of_part : List ℕ) → is_index part_shape of_part ≡ true → source of_part ≢ index

-- the view is the same one; each index of the part has, at the index of the array that it stands for, its source, the item that is given
-- for it; and each index of the array that no index of the part stands for, and each spare place, has the item that it had
pub record HasWrittenPart {T : Type 0} (source : List ℕ → List ℕ) (part_shape : List ℕ) (given : List ℕ → Option T)
    (old new : ArrayValue T) : Type 0 where
  pub view : new.view ≡ old.view
  pub inside : (of_part : List ℕ) → is_index part_shape of_part ≡ true → item_at new (source of_part) ≡ given of_part
  pub outside : (index : List ℕ) → is_index old.view.shape index ≡ true → IsOutside source part_shape index
      → item_at new index ≡ item_at old index
  pub spare : KeepsSpare old new

-- examples
abbrev two : List ℕ → ArrayValue ℕ
two items = record { items = items; view = record { start = 0; shape = 2 ∷ []; strides = pos 1 ∷ [] } }

-- of a part of one index, which stands for the second one
abbrev second : List ℕ → List ℕ
second index = 1 ∷ []

not_the_given_one : HasWrittenPart second (1 ∷ []) (λ index. Some 5) (two (7 ∷ 8 ∷ [])) (two (7 ∷ 6 ∷ [])) → ⊥
not_the_given_one has = both_ways (nat_eq 6 5) refl (eq-eqb 6 5 (ap (λ item. unwrap_or item 0) (has.inside (0 ∷ []) refl)))

first_is_outside : IsOutside second (1 ∷ []) (0 ∷ [])
first_is_outside index here = λ (same : 1 ∷ [] ≡ 0 ∷ []). cc

another_changed : HasWrittenPart second (1 ∷ []) (λ index. Some 5) (two (7 ∷ 8 ∷ [])) (two (6 ∷ 5 ∷ [])) → ⊥
another_changed has = both_ways (nat_eq 6 7) refl (eq-eqb 6 7 (ap (λ item. unwrap_or item 0) (has.outside (0 ∷ []) refl first_is_outside)))
