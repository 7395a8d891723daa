-- What holds of items in any order or in some, and calls of a closure at items in whatever order these lie.
use Rattle.std.specs.Prelude.{◌≡◌, ℕ, ◌+◌, pos, Option, Some, List, [], ◌∷◌, length, map, zip, nat_eq, slice_index_or, refl}
use Rattle.std.proofs.Common.{ap, eq-eqb, ◌∙◌}
use Rattle.std.proofs.lemmas.Bool.{both_ways, ltb-true}
use Rattle.std.proofs.lemmas.List.Sorted.{IsPermutation-reverse, length_permutation}
use Rattle.std.specs.List.{FoldsTo}
use Rattle.std.specs.List.Sorted.{IsPermutation}
use Rattle.ndarray_layout.specs.declared.Order.TheVariants.{RowMajor}
use Rattle.ndarray_layout.specs.Indices.{indices_in}
use Rattle.nd_access.specs.Items.{ArrayValue, item_at}
use Rattle.nd_access.specs.Mapped.{Makes, CallsMake}

-- it holds of the items, in whatever order
abbrev pub InAnyOrder : {X : Type 0} → (List X → Type 0) → List X → Type 0
InAnyOrder {X} P xs = (others : List X) → IsPermutation others xs → P others

-- it holds of the items in some order
abbrev pub InSomeOrder : {X : Type 0} → (List X → Type 0) → List X → Type 0
InSomeOrder {X} P items = (others : List X) × IsPermutation others items × P others

-- calls in turn, each as the one before left the closure, one for each of the given items, in some order: each makes the item at its place
-- in the other list
pub record CallsMakeInSomeOrder {F X Y : Type 0} (call : F → X → Y → F → Type 0) (f : F) (given : List (Option X))
    (made : List (Option Y)) : Type 0 where
  pub pairs : List (Option X × Option Y)
  pub each_once : IsPermutation pairs (zip given made)
  pub last : F
  pub calls : FoldsTo (Makes call) f pairs last

-- calls in turn make the items of an array of those at the same indices of another one: at each index once, in some order
pub record CallsMakeArrayInSomeOrder {F X Y : Type 0} (call : F → X → Y → F → Type 0) (f : F) (given : ArrayValue X) (made : ArrayValue Y)
    : Type 0 where
  pub indices : List (List ℕ)
  pub each_once : IsPermutation indices (indices_in RowMajor made.view.shape)
  pub ran : CallsMake call f (map (item_at given) indices) (map (item_at made) indices)

-- examples: a call that adds what it counts, from 5 on
abbrev counts : ℕ → ℕ → ℕ → ℕ → Type 0
counts before x y after = (y ≡ x + before) × (after ≡ before + 1)

second_item_first : CallsMakeInSomeOrder counts 5 (Some 10 ∷ Some 20 ∷ []) (Some 16 ∷ Some 25 ∷ [])
second_item_first = record {
  pairs = (Some 20, Some 25) ∷ (Some 10, Some 16) ∷ [];
  each_once = IsPermutation-reverse ((Some 20, Some 25) ∷ (Some 10, Some 16) ∷ []);
  last = 7;
  calls = (6, (refl, refl), (7, (refl, refl), refl));
}

in_no_order : InAnyOrder {X = ℕ} (λ xs. xs ≡ 1 ∷ 2 ∷ []) (1 ∷ 2 ∷ []) → ⊥
in_no_order is =
    let turned = is (2 ∷ 1 ∷ []) (IsPermutation-reverse (2 ∷ 1 ∷ [])) in
    both_ways (nat_eq 2 1) refl (eq-eqb 2 1 (ap (λ xs. slice_index_or xs 0 0) turned))

abbrev row : List ℕ → ArrayValue ℕ
row items = record { items = items; view = record { start = 0; shape = length items ∷ []; strides = pos 1 ∷ [] } }

last_one_first : CallsMakeArrayInSomeOrder counts 5 (row (10 ∷ 20 ∷ [])) (row (16 ∷ 25 ∷ []))
last_one_first = record {
  indices = (1 ∷ []) ∷ (0 ∷ []) ∷ [];
  each_once = record { moves = (0, 1) ∷ []; below = (ltb-true 0 2 refl, ltb-true 1 2 refl, tt); is = refl };
  ran = record { last = 7; calls = (6, (refl, refl), (7, (refl, refl), refl)) };
}

some_order_has_all : InSomeOrder {X = Option ℕ} (λ items. items ≡ []) (Some 7 ∷ []) → ⊥
some_order_has_all (items, moved, none) =
    both_ways (nat_eq 1 0) refl (eq-eqb 1 0 (length_permutation items (Some 7 ∷ []) moved ∙ ap length none))
