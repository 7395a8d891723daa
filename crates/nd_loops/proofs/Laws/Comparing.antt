-- Lists of items that are compared one after another, or part by part.
use Rattle.std.proofs.Common.{◌≡◌, ℕ, ◌+◌, Bool, true, false, Option, Some, None, List, [], ◌∷◌, ◌++◌, length, map, drop}
use Rattle.std.proofs.Common.{Decides, sym, refl, ap, subst, ◌∙◌, arith}
use Rattle.std.specs.Cmp.Lexicographic.{pointwise}
use Rattle.std.specs.List.{All}
use Rattle.std.specs.List.Sorted.{IsPermutation}
use Rattle.std.proofs.lemmas.Bool.Decides.{Decides-by_and, same_from_decides}
use Rattle.std.proofs.lemmas.List.Sorted.{All-permutation, IsPermutation-sym}
use Rattle.ndarray_layout.specs.declared.Order.TheVariants.{RowMajor}
use Rattle.ndarray_layout.specs.Indices.{indices_in, is_index}
use Rattle.ndarray_layout.specs.View.{place_at, view_places}
use Rattle.ndarray_layout.proofs.Laws.Indices.{All-indices_in}
use Rattle.nd_access.specs.Items.{ArrayValue, item_at, item_at_place}
use Rattle.std.specs.Prelude.{◌&&◌}
use Rattle.std.proofs.lemmas.List.{drop_more}
use Rattle.nd_loops.specs.Equal.{both_equal}
use Rattle.nd_access.proofs.Laws.Folding.{IsItemAt}
use Rattle.nd_access.proofs.Laws.Sets.{All-indices, AreIndices}
use Rattle.nd_access.proofs.Laws.IndexItems.{items_at}

-- as slices
pub slices_compared : {T U : Type 0} (eq : T → U → Bool) (xs : List T) (ys : List U)
    → pointwise (both_equal eq) (map Some xs) (map Some ys) ≡ pointwise eq xs ys
slices_compared eq [] [] = refl
slices_compared eq [] (y ∷ ys) = refl
slices_compared eq (x ∷ xs) [] = refl
slices_compared eq (x ∷ xs) (y ∷ ys) = ap (λ rest. eq x y && rest) (slices_compared eq xs ys)

module _ {T U : Type 0} (eq : T → U → Bool) where
  -- at an item, and after it
  pub compared_at : {items : List (Option T)} {others : List (Option U)} {i : ℕ} {x : T} {y : U} → IsItemAt items i x → IsItemAt others i y
      → pointwise (both_equal eq) (drop i items) (drop i others)
      ≡ (eq x y && pointwise (both_equal eq) (drop (i + 1) items) (drop (i + 1) others))
  compared_at {items} {others} {i} {x} {y} here there =
      ap (λ xs. pointwise (both_equal eq) xs (drop i others))
      (drop_more items i None here.below ∙ ap (λ x. x ∷ drop (i + 1) items) here.is)
      ∙ ap (pointwise (both_equal eq) (Some x ∷ drop (i + 1) items))
      (drop_more others i None there.below ∙ ap (λ y. y ∷ drop (i + 1) others) there.is)

  -- of a part, and of what comes after it
  pub compared_parts : (items more : List (Option T)) (given others : List (Option U)) → length items ≡ length given
      → pointwise (both_equal eq) (items ++ more) (given ++ others)
      ≡ (pointwise (both_equal eq) items given && pointwise (both_equal eq) more others)
  compared_parts [] more [] others count = refl
  compared_parts [] more (y ∷ given) others count = absurd (omega arith)
  compared_parts (x ∷ items) more [] others count = absurd (omega arith)
  compared_parts (x ∷ items) more (y ∷ given) others count =
      ap (λ rest. both_equal eq x y && rest) (compared_parts items more given others (omega arith))
      ∙ by (both_equal eq x y)
    where
      by : (first : Bool) → (first && (pointwise (both_equal eq) items given && pointwise (both_equal eq) more others))
          ≡ ((first && pointwise (both_equal eq) items given) && pointwise (both_equal eq) more others)
      by true = refl
      by false = refl

-- ---- at each index, in an order
module _ {T U : Type 0} (eq : T → U → Bool) (f : List ℕ → Option T) (h : List ℕ → Option U) where
  abbrev AreEqual : List ℕ → Type 0
  AreEqual index = both_equal eq (f index) (h index) ≡ true

  abbrev compare : List (List ℕ) → Bool
  compare indices = pointwise (both_equal eq) (map f indices) (map h indices)

  each_equal : (indices : List (List ℕ)) → Decides (compare indices) (All AreEqual indices)
  each_equal = Decides-by_and (λ index. both_equal eq (f index) (h index)) AreEqual compare (λ index. (λ e. e, λ e. e)) refl
      (λ index indices. refl)

  -- in another order of the indices
  in_any_order : (indices others : List (List ℕ)) → IsPermutation indices others → compare indices ≡ compare others
  in_any_order indices others moved =
      let decides = each_equal others in
      same_from_decides (compare indices) (compare others) (each_equal indices) (
        λ same. All-permutation AreEqual others indices (IsPermutation-sym indices others moved) (decides.0 same),
        λ all. decides.1 (All-permutation AreEqual indices others moved all),
      )

-- two arrays of one shape are equal in any order of the indices where they are in row-major order
module _ {T U : Type 0} (eq : T → U → Bool) (one : ArrayValue T) (other : ArrayValue U) (same : one.view.shape ≡ other.view.shape) where
  abbrev items_of : {X : Type 0} → List (List ℕ) → ArrayValue X → List (Option X)
  items_of indices array = map (item_at_place array.items) (map (place_at array.view) indices)

  by_index : (indices : List (List ℕ)) → All (λ index. is_index one.view.shape index ≡ true) indices
      → pointwise (both_equal eq) (items_of indices one) (items_of indices other) ≡ compare eq (item_at one) (item_at other) indices
  by_index indices here =
      ap (λ items. pointwise (both_equal eq) items (items_of indices other)) (items_at one indices here)
      ∙ ap (pointwise (both_equal eq) (map (item_at one) indices))
      (items_at other indices (subst (λ shape. All (λ index. is_index shape index ≡ true) indices) same here))

  pub compared_in : (indices : List (List ℕ)) → AreIndices one.view.shape indices
      → pointwise (both_equal eq) (map (item_at_place one.items) (map (place_at one.view) indices))
      (map (item_at_place other.items) (map (place_at other.view) indices))
      ≡ pointwise (both_equal eq) (map (item_at_place one.items) (view_places RowMajor one.view))
      (map (item_at_place other.items) (view_places RowMajor other.view))
  compared_in indices once =
      let all = indices_in RowMajor one.view.shape in
      by_index indices (All-indices one.view.shape indices once)
      ∙ in_any_order eq (item_at one) (item_at other) indices all once
      ∙ sym (by_index all (All-indices_in RowMajor one.view.shape))
      ∙ ap (λ shape. pointwise (both_equal eq) (items_of all one)
      (map (item_at_place other.items) (map (place_at other.view) (indices_in RowMajor shape)))) same
