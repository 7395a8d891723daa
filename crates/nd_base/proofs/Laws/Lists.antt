-- Laws of lists, whatever their items.
use Rattle.std.proofs.Common.{◌≡◌, ℕ, zero, suc, ◌-◌, ◌<◌, List, [], ◌∷◌, ◌++◌, length, get_or, set, take, drop, map, replicate}
use Rattle.std.proofs.Common.{reverse, refl, sym, ap, subst, ◌∙◌, add-one, append_assoc, arith, drop-cons}
use Rattle.std.specs.List.{All, Contains}
use Rattle.std.proofs.Math.ListN.{get_or-map}
use Rattle.std.proofs.lemmas.List.{get_or-reverse, length-drop, length-map, length-reverse, map-append, replicate_more, reverse-append}
use Rattle.std.proofs.lemmas.List.{set_at, set_split, take-append-drop}
use Rattle.std.proofs.lemmas.List.Elements.{All-head, All-tail, Contains-get_or}

-- ---- a function of each item
-- functions that agree on each item make the same list
pub map_same : {A B : Type 0} (f g : A → B) (xs : List A) → All (λ x. f x ≡ g x) xs → map f xs ≡ map g xs
map_same f g [] same = refl
map_same f g (x ∷ xs) same =
    ap (λ y. y ∷ map f xs) (All-head (λ y. f y ≡ g y) x xs same)
    ∙ ap (λ ys. g x ∷ ys) (map_same f g xs (All-tail (λ y. f y ≡ g y) x xs same))

-- what is in a list is in the list of what a function makes of it
pub Contains-map : {A B : Type 0} (f : A → B) (xs : List A) {x : A} → Contains xs x → Contains (map f xs) (f x)
Contains-map f xs {x = x} here =
    (here.0, rw (length-map xs f) here.1, get_or-map f xs here.0 x ∙ ap f here.2)

-- an item by its number is in the list
pub Contains-at : {A : Type 0} (xs : List A) (k : ℕ) (d : A) {x : A} → k < length xs → get_or xs k d ≡ x → Contains xs x
Contains-at xs k d below at = subst (Contains xs) at (Contains-get_or xs k d below)

-- ---- a list from its back
pub map-reverse : {A B : Type 0} (f : A → B) (xs : List A) → map f (reverse xs) ≡ reverse (map f xs)
map-reverse f [] = refl
map-reverse f (x ∷ xs) =
    ap (map f) (reverse-append (x ∷ []) xs)
    ∙ map-append f (reverse xs) (x ∷ [])
    ∙ ap (λ ys. ys ++ f x ∷ []) (map-reverse f xs)
    ∙ sym (reverse-append (f x ∷ []) (map f xs))

-- what folds over the items, each of which may be taken before the other, is the same from the back
module _ {A B : Type 0} (op : A → B → B) (of : List A → B) (step : (x : A) (xs : List A) → of (x ∷ xs) ≡ op x (of xs))
    (turns : (x y : A) (b : B) → op x (op y b) ≡ op y (op x b)) where
  pub fold-push : (xs : List A) (x : A) → of (xs ++ x ∷ []) ≡ op x (of xs)
  fold-push [] x = step x []
  fold-push (y ∷ xs) x =
      step y (xs ++ x ∷ []) ∙ ap (op y) (fold-push xs x) ∙ turns y x (of xs) ∙ ap (op x) (sym (step y xs))

  pub fold-reverse : (xs : List A) → of (reverse xs) ≡ of xs
  fold-reverse [] = refl
  fold-reverse (x ∷ xs) =
      ap of (reverse-append (x ∷ []) xs) ∙ fold-push (reverse xs) x ∙ ap (op x) (fold-reverse xs) ∙ sym (step x xs)

-- the item between a front and a back stays between them
pub reverse_parts : {A : Type 0} (front : List A) (x : A) (back : List A)
    → reverse (front ++ x ∷ back) ≡ reverse back ++ x ∷ reverse front
reverse_parts front x back =
    reverse-append front (x ∷ back)
    ∙ ap (λ ys. ys ++ reverse front) (reverse-append (x ∷ []) back)
    ∙ append_assoc (reverse back) (x ∷ []) (reverse front)

-- items that are all alike are the same from the back
pub reverse-replicate : {A : Type 0} (n : ℕ) (x : A) → reverse (replicate n x) ≡ replicate n x
reverse-replicate zero x = refl
reverse-replicate (suc n) x =
    reverse-append (x ∷ []) (replicate n x)
    ∙ ap (λ ys. ys ++ x ∷ []) (reverse-replicate n x)
    ∙ replicate_more n x
    ∙ ap (λ m. replicate m x) (add-one n)

-- an item counted from the back
pub get_or-from_back : {A : Type 0} (xs : List A) (k : ℕ) (d : A) → k < length xs
    → get_or (reverse xs) (length xs - 1 - k) d ≡ get_or xs k d
get_or-from_back xs k d below =
    let back : length xs - 1 - (length xs - 1 - k) ≡ k = omega arith in
    get_or-reverse xs (length xs - 1 - k) d (omega arith) ∙ ap (λ n. get_or xs n d) back

-- another item there
pub reverse-set : {A : Type 0} (xs : List A) (k : ℕ) (x : A) → k < length xs
    → set (reverse xs) (length xs - 1 - k) x ≡ reverse (set xs k x)
reverse-set xs k x below =
    let back = drop (suc k) xs in
    let first = get_or xs k x in
    let place = length-reverse back ∙ length-drop (suc k) xs ∙ omega arith in
    ap (λ ys. set (reverse ys) (length xs - 1 - k) x) (sym (take-append-drop k xs) ∙ ap (λ ys. take k xs ++ ys) (drop-cons xs k x below))
    ∙ ap (λ ys. set ys (length xs - 1 - k) x) (reverse_parts (take k xs) first back)
    ∙ set_at (reverse back) first (reverse (take k xs)) x (length xs - 1 - k) place
    ∙ sym (reverse_parts (take k xs) x back)
    ∙ ap reverse (sym (set_split xs k x below))
