-- The items that an iterator has still to give, where it leaves some out.
use Rattle.std.proofs.Common.{◌≡◌, ℕ, suc, ◌+◌, ◌-◌, ◌<◌, ◌≤◌, List, [], ◌∷◌, ◌++◌, length}
use Rattle.std.proofs.Common.{map, take, drop, get_or}
use Rattle.std.proofs.Common.{min, sym, ap, ◌∙◌, arith}
use Rattle.std.specs.List.{All}
use Rattle.std.proofs.lemmas.List.{drop-drop, drop-map, drop-take, drop_min, drop_more, get_or-drop, length-drop, length-map}
use Rattle.std.proofs.lemmas.List.{length-take, take-map, take-take, take_more}
use Rattle.std.proofs.lemmas.List.Elements.{All-tail}

-- ---- two parts of a list

pub all_second : {X : Type 0} (P : X → Type 0) (xs ys : List X) → All P (xs ++ ys) → All P ys
all_second P [] ys all = all
all_second P (x ∷ xs) ys all = all_second P xs ys (All-tail P x (xs ++ ys) all)

-- ---- what is made of each item, where some are left out

pub made_of_dropped : {X Y : Type 0} (f : X → Y) (n : ℕ) (xs : List X) {left : List X} {made : List Y} → left ≡ drop n xs → map f xs ≡ made
    → map f left ≡ drop n made
made_of_dropped f n xs left made = ap (map f) left ∙ sym (drop-map f n xs) ∙ ap (drop n) made

pub made_of_taken : {X Y : Type 0} (f : X → Y) (n : ℕ) (xs : List X) {left : List X} {made : List Y} → left ≡ take (length xs - n) xs
    → map f xs ≡ made → map f left ≡ take (length made - n) made
made_of_taken f n xs left made =
    ap (map f) left
    ∙ sym (take-map f (length xs - n) xs)
    ∙ ap (λ m. take (m - n) (map f xs)) (sym (length-map xs f))
    ∙ ap (λ ys. take (length ys - n) ys) made

-- ---- items from one on, to before another one
module _ {X : Type 0} (xs : List X) (begun end : ℕ) (ordered : begun ≤ end) (within : end ≤ length xs) where
  pub count_between : length (take (end - begun) (drop begun xs)) ≡ end - begun
  count_between = omega (arith, length-take (end - begun) (drop begun xs), length-drop begun xs)

  pub first_between : (d : X) → begun < end
      → take (end - begun) (drop begun xs) ≡ get_or xs begun d ∷ take (end - (begun + 1)) (drop (begun + 1) xs)
  first_between d some =
      let more : end - begun ≡ suc (end - (begun + 1)) = omega arith in
      ap (take (end - begun)) (drop_more xs begun d (omega arith))
      ∙ ap (λ n. take n (get_or xs begun d ∷ drop (begun + 1) xs)) more

  pub last_between : (d : X) → begun < end
      → take (end - begun) (drop begun xs) ≡ take (end - 1 - begun) (drop begun xs) ++ get_or xs (end - 1) d ∷ []
  last_between d some =
      let more : end - begun ≡ end - 1 - begun + 1 = omega arith in
      let at : begun + (end - 1 - begun) ≡ end - 1 = omega arith in
      ap (λ n. take n (drop begun xs)) more
      ∙ take_more (drop begun xs) (end - 1 - begun) d (omega (arith, length-drop begun xs))
      ∙ ap (λ x. take (end - 1 - begun) (drop begun xs) ++ x ∷ [])
      (get_or-drop begun xs (end - 1 - begun) d ∙ ap (λ n. get_or xs n d) at)

  pub drop_between : (n : ℕ) → take (end - (begun + min n (end - begun))) (drop (begun + min n (end - begun)) xs)
      ≡ drop n (take (end - begun) (drop begun xs))
  drop_between n =
      let k = min n (end - begun) in
      let left : end - (begun + k) ≡ end - begun - k = omega arith in
      let all : k + (end - begun - k) ≡ end - begun = omega arith in
      let few : min n (length (take (end - begun) (drop begun xs))) ≡ k = ap (min n) count_between in
      ap (λ m. take m (drop (begun + k) xs)) left
      ∙ ap (take (end - begun - k)) (sym (drop-drop k begun xs))
      ∙ sym (drop-take k (end - begun - k) (drop begun xs))
      ∙ ap (λ m. drop k (take m (drop begun xs))) all
      ∙ ap (λ m. drop m (take (end - begun) (drop begun xs))) (sym few)
      ∙ drop_min n (take (end - begun) (drop begun xs))

  pub take_between : (n : ℕ) → take (end - min n (end - begun) - begun) (drop begun xs)
      ≡ take (length (take (end - begun) (drop begun xs)) - n) (take (end - begun) (drop begun xs))
  take_between n =
      let fewer : end - min n (end - begun) - begun ≡ end - begun - n = omega arith in
      let count : end - begun - n ≡ length (take (end - begun) (drop begun xs)) - n = ap (λ m. m - n) (sym count_between) in
      ap (λ m. take m (drop begun xs)) fewer
      ∙ sym (take-take (end - begun - n) (end - begun) (drop begun xs) (omega arith))
      ∙ ap (λ m. take m (take (end - begun) (drop begun xs))) count
