-- A layout with axes of length 1 after its own has the same places.
use Rattle.std.proofs.Common.{◌≡◌, ℕ, zero, suc, ℤ, pos, ◌≤◌, ◌-◌, List, [], ◌∷◌, ◌++◌, length, get_or, map}
use Rattle.std.proofs.Common.{refl, sym, ap, subst, ◌∙◌, arith}
use Rattle.std.proofs.Common.{Option, Result, Ok, Err}
use Rattle.std.specs.List.{flat_map}
use Rattle.std.specs.Prelude.{replicate, ◌+ℤ◌, ◌*ℤ◌, IfOk, IfSome}
use Rattle.std.specs.Result.{result_ok}
use Rattle.std.proofs.lemmas.List.{length-map, map-append}
use Rattle.std.proofs.lemmas.Simd.{map-map}
use Rattle.ndarray_layout.specs.declared.Order.TheVariants.{RowMajor}
use Rattle.ndarray_layout.specs.Indices.{below, indices}
use Rattle.ndarray_layout.specs.Offset.{offset_of}
use Rattle.ndarray_layout.specs.Place.{place, places}
use Rattle.ndarray_layout.specs.Signed.{all_signed, signed}
use Rattle.ndarray_layout.proofs.Laws.Indices.{map-indices_in}
use Rattle.ndarray_layout.proofs.Laws.IsIndex.{length_of_index}

abbrev pub padded : {X : Type 0} → List X → X → ℕ → List X
padded xs other n = xs ++ replicate n other

-- ---- the indices
indices_of_ones : (n : ℕ) → indices (replicate n 1) ≡ replicate n 0 ∷ []
indices_of_ones zero = refl
indices_of_ones (suc n) = ap (λ rest. flat_map (λ i. map (λ index. i ∷ index) rest) (below 1)) (indices_of_ones n)

rows_made : {A B : Type 0} (h : A → B) (f : ℕ → List A) (g : ℕ → List B) → ((i : ℕ) → g i ≡ map h (f i)) → (is : List ℕ)
    → flat_map g is ≡ map h (flat_map f is)
rows_made h f g same [] = refl
rows_made h f g same (i ∷ is) =
    ap (λ row. row ++ flat_map g is) (same i)
    ∙ ap (λ rest. map h (f i) ++ rest) (rows_made h f g same is)
    ∙ sym (map-append h (f i) (flat_map f is))

indices_padded : (shape : List ℕ) (n : ℕ) → indices (padded shape 1 n) ≡ map (λ index. padded index 0 n) (indices shape)
indices_padded [] n = indices_of_ones n
indices_padded (len ∷ shape) n =
    ap (λ rest. flat_map (λ i. map (λ index. i ∷ index) rest) (below len)) (indices_padded shape n)
    ∙ rows_made (λ index. padded index 0 n) (λ i. map (λ index. i ∷ index) (indices shape))
    (λ i. map (λ index. i ∷ index) (map (λ index. padded index 0 n) (indices shape))) (λ i.
    map-map (λ index. i ∷ index) (λ index. padded index 0 n) (indices shape)
    ∙ sym (map-map (λ index. padded index 0 n) (λ index. i ∷ index) (indices shape))) (below len)

-- ---- their places
offset_of_zeros : (n : ℕ) → offset_of (replicate n (pos 0)) (replicate n 0) ≡ pos 0
offset_of_zeros zero = refl
offset_of_zeros (suc n) = ap (λ offset. pos 0 +ℤ offset) (offset_of_zeros n)

offset_padded : (strides : List ℤ) (index : List ℕ) (n : ℕ) → length index ≡ length strides
    → offset_of (padded strides (pos 0) n) (padded index 0 n) ≡ offset_of strides index
offset_padded [] [] n count = offset_of_zeros n
offset_padded [] (i ∷ index) n count = absurd (omega arith)
offset_padded (stride ∷ strides) [] n count = absurd (omega arith)
offset_padded (stride ∷ strides) (i ∷ index) n count =
    ap (λ offset. (pos i *ℤ stride) +ℤ offset) (offset_padded strides index n (omega arith))

strides_padded : (strides : List ℕ) (n : ℕ) → all_signed (padded strides 0 n) ≡ padded (all_signed strides) (pos 0) n
strides_padded strides n = map-append signed strides (replicate n 0) ∙ ap (λ rest. all_signed strides ++ rest) (of_zeros n)
  where
    of_zeros : (n : ℕ) → all_signed (replicate n 0) ≡ replicate n (pos 0)
    of_zeros zero = refl
    of_zeros (suc n) = ap (λ rest. pos 0 ∷ rest) (of_zeros n)

pub places_padded : (start : ℕ) (shape strides : List ℕ) (n : ℕ) → length shape ≡ length strides
    → places RowMajor start (padded shape 1 n) (all_signed (padded strides 0 n)) ≡ places RowMajor start shape (all_signed strides)
places_padded start shape strides n count =
    let own = all_signed strides in
    ap (places RowMajor start (padded shape 1 n)) (strides_padded strides n)
    ∙ ap (map (place start (padded own (pos 0) n))) (indices_padded shape n)
    ∙ map-map (place start (padded own (pos 0) n)) (λ index. padded index 0 n) (indices shape)
    ∙ map-indices_in RowMajor (λ index. place start (padded own (pos 0) n) (padded index 0 n)) (place start own) shape (λ index here.
    ap (λ offset. pos start +ℤ offset) (offset_padded own index n
    (length_of_index shape index here ∙ count ∙ sym (length-map strides signed))))

-- ---- six of them
pub six_listed : (numbers : List ℕ) (other : ℕ) → length numbers ≤ 6
    → get_or numbers 0 other ∷ get_or numbers 1 other ∷ get_or numbers 2 other ∷ get_or numbers 3 other ∷ get_or numbers 4 other
    ∷ get_or numbers 5 other ∷ [] ≡ padded numbers other (6 - length numbers)
six_listed [] other few = refl
six_listed (a ∷ []) other few = refl
six_listed (a ∷ b ∷ []) other few = refl
six_listed (a ∷ b ∷ c ∷ []) other few = refl
six_listed (a ∷ b ∷ c ∷ d ∷ []) other few = refl
six_listed (a ∷ b ∷ c ∷ d ∷ e ∷ []) other few = refl
six_listed (a ∷ b ∷ c ∷ d ∷ e ∷ f ∷ []) other few = refl
six_listed (a ∷ b ∷ c ∷ d ∷ e ∷ f ∷ more ∷ numbers) other few = absurd (omega arith)

-- what holds of the value of a `Result` holds of that of its `Option`
pub some_of_ok : {A E : Type 0} (P : A → Type 0) (r : Result A E) {o : Option A} → o ≡ result_ok r → IfOk r P → IfSome o P
some_of_ok P (Ok x) same holds = subst (λ o. IfSome o P) (sym same) holds
some_of_ok P (Err e) same holds = subst (λ o. IfSome o P) (sym same) tt
