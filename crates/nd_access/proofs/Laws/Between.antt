-- The items of a list from one number up to another: the first, the last, and those without some at either end.
use Rattle.std.proofs.Common.{◌≡◌, ℕ, zero, suc, ◌+◌, ◌-◌, ◌<◌, ◌≤◌, inl, inr, Some, List, [], ◌∷◌, ◌++◌, length, drop, take, min, refl}
use Rattle.std.proofs.Common.{sym, ap, ◌∙◌, arith}
use Rattle.std.specs.Prelude.{slice_get}
use Rattle.std.proofs.Math.Nat.{min-eq_left, min-eq_right}
use Rattle.std.proofs.lemmas.Bool.{cases_lt}
use Rattle.std.proofs.lemmas.List.{drop_all, drop-append-le, drop-drop, drop-take, length-drop, length-take-le}
use Rattle.std.proofs.lemmas.List.{take_more}
use Rattle.std.proofs.lemmas.Option.{get_or_from_slice_get, slice_get_within}

-- an item below the end is that of the list
pub slice_get-take : {X : Type 0} (xs : List X) (end k : ℕ) → k < end → slice_get (take end xs) k ≡ slice_get xs k
slice_get-take xs zero k below = absurd (omega arith)
slice_get-take [] (suc end) k below = refl
slice_get-take (x ∷ xs) (suc end) zero below = refl
slice_get-take (x ∷ xs) (suc end) (suc k) below = slice_get-take xs end k (omega arith)

module _ {X : Type 0} (xs : List X) (begun end : ℕ) where
  -- as many as lie between, from the first on
  from_first : begun ≤ end → drop begun (take end xs) ≡ take (end - begun) (drop begun xs)
  from_first ordered =
      let all : end ≡ begun + (end - begun) = omega (arith, ordered) in
      ap (λ n. drop begun (take n xs)) all ∙ drop-take begun (end - begun) xs

  -- so many
  pub length_between : begun ≤ end → end ≤ length xs → length (drop begun (take end xs)) ≡ end - begun
  length_between ordered within = omega (arith, length-drop begun (take end xs), length-take-le end xs within)

  -- the last one comes after the others
  pub last_between : {x : X} → begun < end → Some x ≡ slice_get xs (end - 1)
      → drop begun (take end xs) ≡ drop begun (take (end - 1) xs) ++ x ∷ []
  last_between {x} some there =
      let below : end - 1 < length xs = slice_get_within xs (end - 1) x (sym there) in
      let more : end ≡ end - 1 + 1 = omega (arith, some) in
      let before = take (end - 1) xs in
      let long : length before ≡ end - 1 = length-take-le (end - 1) xs (omega (arith, below)) in
      ap (λ n. drop begun (take n xs)) more
      ∙ ap (drop begun) (take_more xs (end - 1) x below)
      ∙ ap (λ last. drop begun (before ++ last ∷ [])) (get_or_from_slice_get xs (end - 1) x x (sym there))
      ∙ drop-append-le begun before (x ∷ []) (omega (arith, long, some))

  module _ (ordered : begun ≤ end) (within : end ≤ length xs) (count : ℕ) {left_out : ℕ} (some : left_out ≡ min count (end - begun)) where
    long : length (drop begun (take end xs)) ≡ end - begun
    long = length_between ordered within

    -- those after so many of them
    pub between_advanced : drop (begun + left_out) (take end xs) ≡ drop count (drop begun (take end xs))
    between_advanced = sym (drop-drop left_out begun (take end xs)) ∙ elim (cases_lt count (end - begun)) [
      | inl fewer ↦ ap (λ n. drop n (drop begun (take end xs))) (some ∙ min-eq_left (omega (arith, fewer)))
      | inr all ↦
          let every : left_out ≡ end - begun = some ∙ min-eq_right (omega (arith, all)) in
          drop_all left_out (drop begun (take end xs)) (omega (arith, long, every))
          ∙ sym (drop_all count (drop begun (take end xs)) (omega (arith, long, all)))
    ]

    -- and those before so many of them
    pub between_cut : drop begun (take (end - left_out) xs)
        ≡ take (length (drop begun (take end xs)) - count) (drop begun (take end xs))
    between_cut =
        let left : ℕ = end - begun in
        let fewer : left_out ≤ left = elim (cases_lt count (end - begun)) [
          | inl less ↦ omega (arith, less, some ∙ min-eq_left (omega (arith, less)))
          | inr all ↦ omega (arith, some ∙ min-eq_right (omega (arith, all)))
        ] in
        let kept : end - left_out ≡ begun + (left - left_out) = omega (arith, ordered, fewer) in
        let same : left - left_out ≡ length (drop begun (take end xs)) - count = elim (cases_lt count (end - begun)) [
          | inl less ↦ omega (arith, long, less, some ∙ min-eq_left (omega (arith, less)))
          | inr all ↦ omega (arith, long, all, some ∙ min-eq_right (omega (arith, all)))
        ] in
        ap (λ n. drop begun (take n xs)) kept
        ∙ drop-take begun (left - left_out) xs
        ∙ first_of (left - left_out) left (drop begun xs) (omega (arith))
        ∙ ap (take (left - left_out)) (sym (from_first ordered))
        ∙ ap (λ n. take n (drop begun (take end xs))) same
      where
        first_of : (few many : ℕ) (ys : List X) → few ≤ many → take few ys ≡ take few (take many ys)
        first_of zero many ys less = refl
        first_of (suc few) zero ys less = absurd (omega arith)
        first_of (suc few) (suc many) [] less = refl
        first_of (suc few) (suc many) (y ∷ ys) less = ap (λ zs. y ∷ zs) (first_of few many ys (omega arith))
