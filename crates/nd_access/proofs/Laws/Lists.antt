-- Laws of lists: of two parts, of pairs of items, of what a function makes of each item, and of an item that is replaced.
use Rattle.std.proofs.Common.{◌≡◌, ◌≢◌, ℕ, zero, suc, ◌+◌, ◌<◌, ◌≤◌, inl, inr, Some, List, [], ◌∷◌, ◌++◌, length, get_or, set, map, drop}
use Rattle.std.proofs.Common.{refl, sym, ap, subst}
use Rattle.std.proofs.Common.{◌∙◌, arith}
use Rattle.std.specs.List.{All, AllPairs, Contains, flat_map}
use Rattle.std.specs.Prelude.{slice_get}
use Rattle.std.proofs.lemmas.List.{drop_all, drop_more, get_or-append-add, get_or-map, get_or_append_left, length-append, length-map}
use Rattle.std.proofs.lemmas.List.Elements.{All-append, All-head, All-tail, Contains-append_cases}
use Rattle.std.proofs.lemmas.List.Kept.{AllPairs-cons}

-- an item of a list is the same whatever stands for a missing one
pub other_default : {X : Type 0} (xs : List X) (i : ℕ) (d e : X) → i < length xs → get_or xs i d ≡ get_or xs i e
other_default [] i d e below = absurd (omega arith)
other_default (x ∷ xs) zero d e below = refl
other_default (x ∷ xs) (suc i) d e below = other_default xs i d e (omega arith)

-- an item of a list, at its index
pub record IsItem {X : Type 0} (xs : List X) (i : ℕ) (x : X) : Type 0 where
  pub below : i < length xs
  pub is : x ≡ get_or xs i x

-- ---- two parts

pub all_first : {X : Type 0} (P : X → Type 0) (xs ys : List X) → All P (xs ++ ys) → All P xs
all_first P xs ys all = λ k d below. subst P (get_or_append_left xs ys d k below) (all k d (omega (arith, length-append xs ys)))

pub pairs_first : {X : Type 0} (R : X → X → Type 0) (xs ys : List X) → AllPairs R (xs ++ ys) → AllPairs R xs
pairs_first R xs ys pairs = λ i j d earlier below.
    let first : get_or (xs ++ ys) i d ≡ get_or xs i d = get_or_append_left xs ys d i (omega arith) in
    subst (λ x. R x (get_or xs j d)) first
    (subst (R (get_or (xs ++ ys) i d)) (get_or_append_left xs ys d j below) (pairs i j d earlier (omega (arith, length-append xs ys))))

pub pairs_second : {X : Type 0} (R : X → X → Type 0) (xs ys : List X) → AllPairs R (xs ++ ys) → AllPairs R ys
pairs_second R xs ys pairs = λ i j d earlier below.
    let from = length xs in
    subst (λ x. R x (get_or ys j d)) (get_or-append-add xs ys i d)
    (subst (R (get_or (xs ++ ys) (from + i) d)) (get_or-append-add xs ys j d) (pairs (from + i) (from + j) d (omega arith)
    (omega (arith, length-append xs ys))))

-- where no item is there twice, none of the one part is in the other
pub parts_apart : {X : Type 0} (xs ys : List X) → AllPairs (λ one other. one ≢ other) (xs ++ ys) → All (λ x. Contains ys x → ⊥) xs
parts_apart xs ys distinct = λ k d below here.
    distinct k (length xs + here.0) d (omega arith) (omega (arith, here.1, length-append xs ys))
    (get_or_append_left xs ys d k below ∙ sym here.2 ∙ other_default ys here.0 (get_or xs k d) d here.1
    ∙ sym (get_or-append-add xs ys here.0 d))

-- ---- a list of lists

-- what is in none of them is not in all of them together
pub none_of_all : {A X : Type 0} (f : A → List X) (xs : List A) (x : X) → All (λ a. Contains (f a) x → ⊥) xs → Contains (flat_map f xs) x
    → ⊥
none_of_all f [] x none here = absurd (omega (arith, here.1))
none_of_all f (a ∷ xs) x none here =
    elim (Contains-append_cases (f a) (flat_map f xs) x here) [
      | inl one ↦ All-head (λ b. Contains (f b) x → ⊥) a xs none one
      | inr more ↦ none_of_all f xs x (All-tail (λ b. Contains (f b) x → ⊥) a xs none) more
    ]

-- ---- pairs of items

pub pairs_head : {X : Type 0} (R : X → X → Type 0) (x : X) (xs : List X) → AllPairs R (x ∷ xs) → All (R x) xs
pairs_head R x xs pairs = λ k d below. pairs 0 (suc k) d (omega arith) (omega arith)

pub pairs_tail : {X : Type 0} (R : X → X → Type 0) (x : X) (xs : List X) → AllPairs R (x ∷ xs) → AllPairs R xs
pairs_tail R x xs pairs = λ i j d earlier below. pairs (suc i) (suc j) d (omega arith) (omega arith)

-- two lists without a number twice, of which none is in both
pub pairs_append : {X : Type 0} (xs ys : List X) → AllPairs (λ one other. one ≢ other) xs → AllPairs (λ one other. one ≢ other) ys
    → All (λ x. Contains ys x → ⊥) xs
    → AllPairs (λ one other. one ≢ other) (xs ++ ys)
pairs_append [] ys first second apart = second
pairs_append (x ∷ xs) ys first second apart =
    let none = All-head (λ x. Contains ys x → ⊥) x xs apart in
    AllPairs-cons (λ one other. one ≢ other) x (xs ++ ys)
    (All-append (λ other. x ≢ other) xs ys (pairs_head (λ one other. one ≢ other) x xs first)
    (λ k d below same. none (k, below, other_default ys k x d below ∙ sym same)))
    (pairs_append xs ys (pairs_tail (λ one other. one ≢ other) x xs first) second (All-tail (λ x. Contains ys x → ⊥) x xs apart))

-- ---- what a function makes of each item

-- what holds of what a function makes of each item
pub All-of_map : {A B : Type 0} (f : A → B) (xs : List A) (P : B → Type 0) → All P (map f xs) → All (λ x. P (f x)) xs
All-of_map f xs P all = λ k d below. subst P (get_or-map f xs k d (f d) below) (all k (f d) (omega (arith, length-map xs f, below)))

pub within : {X Y : Type 0} (f : X → Y) (xs : List X) (i : ℕ) → i < length xs → i < length (map f xs)
within f xs i below = omega (arith, length-map xs f)

-- the item is what the function makes of the item of the first list
pub this : {X Y : Type 0} (f : X → Y) (xs : List X) (i : ℕ) {x : X} → i < length xs → x ≡ get_or xs i x → f x ≡ get_or (map f xs) i (f x)
this f xs i {x} below is = ap f is ∙ sym (get_or-map f xs i x (f x) below)

-- what is left from it on
pub next : {X Y : Type 0} (f : X → Y) (xs : List X) (i : ℕ) {x : X} → i < length xs → x ≡ get_or xs i x
    → drop i (map f xs) ≡ f x ∷ drop (i + 1) (map f xs)
next f xs i {x} below is = drop_more (map f xs) i (f x) (within f xs i below) ∙ ap (λ y. y ∷ drop (i + 1) (map f xs))
    (sym (this f xs i below is))

-- nothing is left from its end on
pub ended : {X Y : Type 0} (f : X → Y) (xs : List X) (i : ℕ) → length xs ≤ i → drop i (map f xs) ≡ []
ended f xs i end = drop_all i (map f xs) (omega (arith, length-map xs f, end))

-- what holds of each item holds of it
pub of_this : {X Y : Type 0} (P : Y → Type 0) (f : X → Y) (xs : List X) (i : ℕ) {x : X} → i < length xs → x ≡ get_or xs i x
    → All P (map f xs) → P (f x)
of_this P f xs i {x} below is all = subst P (sym (this f xs i below is)) (all i (f x) (within f xs i below))

-- ---- an item that is replaced

pub set_same : {X : Type 0} (xs : List X) (i : ℕ) {x : X} → i < length xs → slice_get (set xs i x) i ≡ Some x
set_same [] i below = absurd (omega arith)
set_same (y ∷ xs) zero below = refl
set_same (y ∷ xs) (suc i) below = set_same xs i (omega arith)

pub set_other : {X : Type 0} (xs : List X) (i : ℕ) (x : X) (j : ℕ) → j ≢ i → slice_get (set xs i x) j ≡ slice_get xs j
set_other [] i x j apart = refl
set_other (y ∷ xs) zero x zero apart = absurd (apart refl)
set_other (y ∷ xs) zero x (suc j) apart = refl
set_other (y ∷ xs) (suc i) x zero apart = refl
set_other (y ∷ xs) (suc i) x (suc j) apart = set_other xs i x j (λ same. apart (ap suc same))
