-- The places of a view in some order, and those of two views of one shape in the same order.
use Rattle.std.proofs.Common.{◌≡◌, ℕ, ℤ, List, [], ◌∷◌, length, map, refl, sym, ap, subst, ◌∙◌}
use Rattle.std.specs.List.Sorted.{IsPermutation}
use Rattle.std.specs.Prelude.{zip}
use Rattle.std.proofs.lemmas.Simd.{map-map}
use Rattle.std.proofs.lemmas.Slice.Zip.{firsts-zip, seconds-zip}
use Rattle.ndarray_layout.specs.declared.Order.TheVariants.{RowMajor}
use Rattle.ndarray_layout.specs.Indices.{indices_in}
use Rattle.ndarray_layout.specs.Nearest.{pairs_of_places}
use Rattle.ndarray_layout.specs.View.{View, place_at, view_places}
use Rattle.nd_access.proofs.Laws.Permuted.{made_of_permuted}
use Rattle.nd_access.proofs.Laws.Sets.{AreIndices, places_moved}

-- they are those of its indices, each once
pub record AreMoved (view : View) (places : List ℤ) : Type 0 where
  pub indices : List (List ℕ)
  pub once : AreIndices view.shape indices
  pub are : places ≡ map (place_at view) indices

pub all_moved : (view : View) (places : List ℤ) → IsPermutation places (view_places RowMajor view) → AreMoved view places
all_moved view places moved =
    let made = made_of_permuted (place_at view) (indices_in RowMajor view.shape) places moved in
    record { indices = made.source; once = made.each_once; are = made.is }

-- and those of both are those of the same indices
pub record AreAlike (view other : View) (places others : List ℤ) : Type 0 where
  pub indices : List (List ℕ)
  pub once : AreIndices view.shape indices
  pub first : places ≡ map (place_at view) indices
  pub second : others ≡ map (place_at other) indices

-- pairs of what two functions make of each item
pub zip_of_maps : {X Y Z : Type 0} (f : X → Y) (g : X → Z) (xs : List X) → zip (map f xs) (map g xs) ≡ map (λ x. (f x, g x)) xs
zip_of_maps f g [] = refl
zip_of_maps f g (x ∷ xs) = ap (λ rest. (f x, g x) ∷ rest) (zip_of_maps f g xs)

module _ (view other : View) (same : view.shape ≡ other.shape) where
  abbrev both : List ℕ → ℤ × ℤ
  both index = (place_at view index, place_at other index)

  pairs_of_both : pairs_of_places view other ≡ map both (indices_in RowMajor view.shape)
  pairs_of_both =
      ap (λ shape. zip (view_places RowMajor view) (map (place_at other) (indices_in RowMajor shape))) (sym same)
      ∙ zip_of_maps (place_at view) (place_at other) (indices_in RowMajor view.shape)

  pub alike_moved : (places others : List ℤ) → length others ≡ length places
      → IsPermutation (zip places others) (pairs_of_places view other) → AreAlike view other places others
  alike_moved places others count moved =
      let pairs = zip places others in
      let made = made_of_permuted both (indices_in RowMajor view.shape) pairs (subst (IsPermutation pairs) pairs_of_both moved) in
      record {
        indices = made.source;
        once = made.each_once;
        first = sym (firsts-zip places others count)
            ∙ ap (map (λ (pair : ℤ × ℤ). pair.0)) made.is
            ∙ map-map (λ (pair : ℤ × ℤ). pair.0) both made.source;
        second = sym (seconds-zip places others count)
            ∙ ap (map (λ (pair : ℤ × ℤ). pair.1)) made.is
            ∙ map-map (λ (pair : ℤ × ℤ). pair.1) both made.source;
      }

-- so those of each are all of its own
pub first_moved : {view other : View} {places others : List ℤ} → AreAlike view other places others
    → IsPermutation places (view_places RowMajor view)
first_moved {view} alike =
    subst (λ places. IsPermutation places (view_places RowMajor view)) (sym alike.first) (places_moved view alike.indices alike.once)

pub second_moved : {view other : View} {places others : List ℤ} → AreAlike view other places others → view.shape ≡ other.shape
    → IsPermutation others (view_places RowMajor other)
second_moved {other = other} alike same =
    subst (λ places. IsPermutation places (view_places RowMajor other)) (sym alike.second)
    (places_moved other alike.indices (subst (λ shape. AreIndices shape alike.indices) same alike.once))
