-- What is made of the items of a list that are left, where some are left out or one is taken at either end.
use Rattle.std.proofs.Common.{◌≡◌, ℕ, ◌+◌, ◌-◌, ◌<◌, List, [], ◌∷◌, ◌++◌, length, map, take, drop, get_or, refl, sym, ap, subst, ◌∙◌, arith}
use Rattle.std.proofs.Common.{Option, Some, None}
use Rattle.std.specs.Prelude.{MatchOption}
use Rattle.std.specs.List.{All}
use Rattle.std.proofs.lemmas.List.{drop-map, get_or-append-add, get_or-map, length-append, length-map, map_push, take-map, take_at}
use Rattle.std.proofs.lemmas.List.Elements.{All-drop, All-head, All-tail, All-take}

module _ {X Y : Type 0} (f : X → Y) (xs : List X) {made : List Y} (are : map f xs ≡ made) where
  pub made_of_dropped : (n : ℕ) {left : List X} → left ≡ drop n xs → map f left ≡ drop n made
  made_of_dropped n is = ap (map f) is ∙ sym (drop-map f n xs) ∙ ap (drop n) are

  pub made_of_taken : (n : ℕ) {left : List X} → left ≡ take (length xs - n) xs → map f left ≡ take (length made - n) made
  made_of_taken n is =
      ap (map f) is
      ∙ sym (take-map f (length xs - n) xs)
      ∙ ap (λ m. take (m - n) (map f xs)) (sym (length-map xs f))
      ∙ ap (λ ys. take (length ys - n) ys) are

  module _ (P : Y → Type 0) (all : All P made) where
    pub left_of_dropped : (n : ℕ) {left : List X} → left ≡ drop n xs → All P (map f left)
    left_of_dropped n is = subst (All P) (sym (made_of_dropped n is)) (All-drop P n made all)

    pub left_of_taken : (n : ℕ) {left : List X} → left ≡ take (length xs - n) xs → All P (map f left)
    left_of_taken n is = subst (All P) (sym (made_of_taken n is)) (All-take P (length made - n) made all)

    -- it holds of one of them, where there is one
    pub of_one : (x : X) → 0 < length xs → P (f (get_or xs 0 x))
    of_one x some =
        subst P (get_or-map f xs 0 x (f x) some)
        (subst (All P) (sym are) all 0 (f x) (omega (arith, length-map xs f, some)))

    -- of the first, and of those after it
    pub of_first : (x : X) (rest : List X) → xs ≡ x ∷ rest → P (f x)
    of_first x rest is = All-head P (f x) (map f rest) (subst (λ (ys : List X). All P (map f ys)) is (subst (All P) (sym are) all))

    pub of_rest : (x : X) (rest : List X) → xs ≡ x ∷ rest → All P (map f rest)
    of_rest x rest is = All-tail P (f x) (map f rest) (subst (λ (ys : List X). All P (map f ys)) is (subst (All P) (sym are) all))

    pub left_after_first : {A : Type 0} (view : A → X) (taken : Option A) (rest : List X)
        → MatchOption taken ((xs ≡ []) × (rest ≡ [])) (λ x. xs ≡ view x ∷ rest) → All P (map f rest)
    left_after_first view None rest none = subst (λ (ys : List X). All P (map f ys)) (sym none.1) (λ k d below. absurd (omega arith))
    left_after_first view (Some x) rest is = of_rest (view x) rest is

    -- of the last, and of those before it
    pushed : (x : X) (rest : List X) → xs ≡ rest ++ x ∷ [] → All P (map f rest ++ f x ∷ [])
    pushed x rest is = subst (All P) (sym are ∙ ap (map f) is ∙ map_push f rest x) all

    pub of_last : (x : X) (rest : List X) → xs ≡ rest ++ x ∷ [] → P (f x)
    of_last x rest is =
        let before = map f rest in
        subst P (get_or-append-add before (f x ∷ []) 0 (f x))
        (pushed x rest is (length before + 0) (f x) (omega (arith, length-append before (f x ∷ []))))

    pub of_others : (x : X) (rest : List X) → xs ≡ rest ++ x ∷ [] → All P (map f rest)
    of_others x rest is =
        let before = map f rest in
        subst (All P) (take_at before (f x ∷ []) (length before) refl)
        (All-take P (length before) (before ++ f x ∷ []) (pushed x rest is))

    pub left_after_last : {A : Type 0} (view : A → X) (taken : Option A) (rest : List X)
        → MatchOption taken ((xs ≡ []) × (rest ≡ [])) (λ x. xs ≡ rest ++ view x ∷ []) → All P (map f rest)
    left_after_last view None rest none = subst (λ (ys : List X). All P (map f ys)) (sym none.1) (λ k d below. absurd (omega arith))
    left_after_last view (Some x) rest is = of_others (view x) rest is
