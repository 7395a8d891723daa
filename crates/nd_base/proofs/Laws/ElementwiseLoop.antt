-- Laws of two lists that a loop combines number by number, from the front on.
use Rattle.std.proofs.Common.{◌≡◌, ℕ, zero, suc, ◌+◌, ◌<◌, List, [], ◌∷◌, length, get_or, set, refl, ap, ◌∙◌, sym, subst, arith, add-one}
use Rattle.std.specs.List.{AllZip}
use Rattle.std.proofs.lemmas.List.Elements.{AllZip-get_or, length_all_zip}
use Rattle.nd_base.specs.Elementwise.{elementwise}

-- the first n items are combined, the others still those of xs
abbrev pub combined : (ℕ → ℕ → ℕ) → ℕ → List ℕ → List ℕ → List ℕ
combined f zero xs ys = xs
combined f (suc n) [] ys = []
combined f (suc n) (x ∷ xs) [] = x ∷ xs
combined f (suc n) (x ∷ xs) (y ∷ ys) = f x y ∷ combined f n xs ys

-- the next item is still that of xs
next_of_combined : (f : ℕ → ℕ → ℕ) (n : ℕ) (xs ys : List ℕ) (d : ℕ)
    → get_or (combined f n xs ys) n d ≡ get_or xs n d
next_of_combined f zero xs ys d = refl
next_of_combined f (suc n) [] ys d = refl
next_of_combined f (suc n) (x ∷ xs) [] d = refl
next_of_combined f (suc n) (x ∷ xs) (y ∷ ys) d = next_of_combined f n xs ys d

-- one more item
one_more : (f : ℕ → ℕ → ℕ) (n : ℕ) (xs ys : List ℕ) → n < length xs → n < length ys
    → set (combined f n xs ys) n (f (get_or xs n 0) (get_or ys n 0)) ≡ combined f (suc n) xs ys
one_more f n [] ys h k = absurd (omega arith)
one_more f n (x ∷ xs) [] h k = absurd (omega arith)
one_more f zero (x ∷ xs) (y ∷ ys) h k = refl
one_more f (suc n) (x ∷ xs) (y ∷ ys) h k =
    ap (λ zs. f x y ∷ zs) (one_more f n xs ys (omega arith) (omega arith))

-- all items
all_of_them : (f : ℕ → ℕ → ℕ) (xs ys : List ℕ) → length xs ≡ length ys
    → combined f (length ys) xs ys ≡ elementwise f xs ys
all_of_them f [] [] h = refl
all_of_them f [] (y ∷ ys) h = absurd (omega arith)
all_of_them f (x ∷ xs) [] h = absurd (omega arith)
all_of_them f (x ∷ xs) (y ∷ ys) h = ap (λ zs. f x y ∷ zs) (all_of_them f xs ys (omega arith))

module _ (f : ℕ → ℕ → ℕ) (xs ys zs : List ℕ) (n : ℕ) (long : length xs ≡ length ys)
    (e : zs ≡ combined f n xs ys) where
  -- a turn of the loop
  pub combined_more : n < length ys
      → set zs n (f (get_or zs n 0) (get_or ys n 0)) ≡ combined f (n + 1) xs ys
  combined_more h = rw (add-one, e, next_of_combined f n xs ys 0) (one_more f n xs ys (omega arith) h)

  -- the end of the loop
  pub combined_all : n ≡ length ys → zs ≡ elementwise f xs ys
  combined_all h = e ∙ ap (λ m. combined f m xs ys) h ∙ all_of_them f xs ys long

module _ (R : ℕ → ℕ → Type 0) (f : ℕ → ℕ → ℕ) (xs ys zs : List ℕ) (n : ℕ)
    (r : AllZip R xs ys) (e : zs ≡ combined f n xs ys) where
  -- what holds of the items of xs and ys at one place holds of those that the loop reads
  pub combined_read : n < length ys → R (get_or zs n 0) (get_or ys n 0)
  combined_read h =
      let long : length xs ≡ length ys = length_all_zip R xs ys r in
      let same = ap (λ l. get_or l n 0) e ∙ next_of_combined f n xs ys 0 in
      subst (λ x. R x (get_or ys n 0)) (sym same) (AllZip-get_or R xs ys n 0 0 r (omega arith))
