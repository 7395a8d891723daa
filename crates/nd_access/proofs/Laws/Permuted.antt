-- Lists in another order: of what their items are made, and that items which differ still do.
use Rattle.std.proofs.Common.{◌≡◌, ◌≢◌, ℕ, ◌<◌, ℤ, List, [], ◌∷◌, length, map, set, get_or, refl, sym, ap, subst, ◌∙◌, arith}
use Rattle.std.specs.List.{AllPairs, swap}
use Rattle.std.specs.List.Sorted.{IsPermutation}
use Rattle.std.specs.Ordering.{int_eq}
use Rattle.std.proofs.lemmas.Bool.Decides.{Decides-int_eq, same_from_decides}
use Rattle.std.proofs.lemmas.List.{get_or-map, length-map, map-set}
use Rattle.std.proofs.lemmas.List.Sorted.{IsPermutation-keeps, IsPermutation-refl, IsPermutation-swap, IsPermutation-sym}
use Rattle.std.proofs.lemmas.List.Sorted.{IsPermutation-trans}
use Rattle.std.proofs.lemmas.Map.Keys.{IsDistinct-IsPermutation}
use Rattle.std.proofs.lemmas.Map.Made.{AllPairs-from_IsDistinct, IsDistinct-from_AllPairs}

pub permuted : {X : Type 0} {xs ys : List X} → xs ≡ ys → IsPermutation xs ys
permuted {xs = xs} same = subst (IsPermutation xs) same (IsPermutation-refl xs)

-- places that differ do so in any order
pub distinct_permuted : (xs ys : List ℤ) → IsPermutation xs ys → AllPairs (λ one other. one ≢ other) xs
    → AllPairs (λ one other. one ≢ other) ys
distinct_permuted xs ys moved distinct =
    AllPairs-from_IsDistinct Decides-int_eq ys
    (IsDistinct-IsPermutation int_eq either_way xs ys moved (IsDistinct-from_AllPairs Decides-int_eq xs distinct))
  where
    either_way : (x y : ℤ) → int_eq x y ≡ int_eq y x
    either_way x y = same_from_decides (int_eq x y) (int_eq y x) (Decides-int_eq x y)
        (λ e. sym ((Decides-int_eq y x).0 e), λ e. (Decides-int_eq y x).1 (sym e))

-- ---- what is made of the items of a list, in another order, is made of them in that order
pub record IsMadeOf {P X : Type 0} (f : P → X) (ps : List P) (xs : List X) : Type 0 where
  pub source : List P
  pub each_once : IsPermutation source ps
  pub is : xs ≡ map f source

module _ {P X : Type 0} (f : P → X) where
  map_swapped : (ps : List P) (i j : ℕ) → i < length ps → j < length ps → map f (swap ps i j) ≡ swap (map f ps) i j
  map_swapped [] i j a b = refl
  map_swapped (d ∷ qs) i j a b =
      let ps = d ∷ qs in
      let first = sym (get_or-map f ps i d (f d) a) in
      let second = sym (get_or-map f ps j d (f d) b) in
      map-set f (set ps i (get_or ps j d)) j (get_or ps i d)
      ∙ ap (λ xs. set xs j (f (get_or ps i d))) (map-set f ps i (get_or ps j d))
      ∙ ap (λ x. set (set (map f ps) i x) j (f (get_or ps i d))) second
      ∙ ap (λ x. set (set (map f ps) i (get_or (map f ps) j (f d))) j x) first

  swapped : (ps : List P) (xs : List X) (i j : ℕ) → i < length xs → j < length xs → IsMadeOf f ps xs → IsMadeOf f ps (swap xs i j)
  swapped ps xs i j a b made =
      let long : length xs ≡ length made.source = ap length made.is ∙ length-map made.source f in
      let one : i < length made.source = omega arith in
      let other : j < length made.source = omega arith in
      let moved = swap made.source i j in
      record {
        source = moved;
        each_once = IsPermutation-trans moved made.source ps
            (IsPermutation-sym made.source moved (IsPermutation-swap made.source moved i j one other refl)) made.each_once;
        is = ap (λ ys. swap ys i j) made.is ∙ sym (map_swapped made.source i j one other);
      }

  pub made_of_permuted : (ps : List P) (xs : List X) → IsPermutation xs (map f ps) → IsMadeOf f ps xs
  made_of_permuted ps xs moved =
      IsPermutation-keeps (map f ps) (IsMadeOf f ps) (record { source = ps; each_once = IsPermutation-refl ps; is = refl })
      (λ ys i j a b made. swapped ps ys i j a b made) xs (IsPermutation-sym xs (map f ps) moved)
