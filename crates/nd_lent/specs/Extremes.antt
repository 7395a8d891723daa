-- The least and the greatest of items.
use Rattle.std.specs.Prelude.{◌≡◌, ℕ, true, false, Bool, Option, Some, List, [], ◌∷◌, ◌++◌, nat_lt, refl}
use Rattle.std.specs.List.{All, Contains}
use Rattle.std.specs.Option.{option_map_or}
use Rattle.std.specs.Ordering.{is_eq}
use Rattle.std.proofs.Common.{Ordering, Equal, subst}
use Rattle.std.proofs.Math.Nat.{not-suc-le-zero}
use Rattle.std.proofs.lemmas.Bool.{ltb-true}

-- one of the items, before which none of them comes
pub record IsFirstOf {T : Type 0} (comes_before : T → T → Bool) (items : List (Option T)) (first : T) : Type 0 where
  pub item : Contains items (Some first)
  pub none_before : All (λ item. option_map_or (λ other. comes_before other first) item false ≡ false) items

-- one of the items, and none before it is its equal: of equal ones it is the first
pub record HasNoEqualBefore {T : Type 0} (cmp : T → T → Ordering) (items : List (Option T)) (item : T) : Type 0 where
  pub before : List (Option T)
  pub after : List (Option T)
  pub are : items ≡ before ++ Some item ∷ after
  pub none_equal : All (λ other. option_map_or (λ other. is_eq (cmp other item)) other false ≡ false) before

-- and none after it: of equal ones it is the last
pub record HasNoEqualAfter {T : Type 0} (cmp : T → T → Ordering) (items : List (Option T)) (item : T) : Type 0 where
  pub before : List (Option T)
  pub after : List (Option T)
  pub are : items ≡ before ++ Some item ∷ after
  pub none_equal : All (λ other. option_map_or (λ other. is_eq (cmp other item)) other false ≡ false) after

-- examples
not_the_least : IsFirstOf nat_lt (Some 7 ∷ Some 8 ∷ []) 8 → ⊥
not_the_least is = let wrong : true ≡ false = is.none_before 0 (Some 7) (ltb-true 0 2 refl) in cc

last_of_two_equal : HasNoEqualAfter {T = ℕ} (λ one other. Equal) (Some 7 ∷ Some 8 ∷ []) 8
last_of_two_equal = record { before = Some 7 ∷ []; after = []; are = refl; none_equal = λ k d below. absurd (not-suc-le-zero below) }

first_of_two_equal : HasNoEqualBefore {T = ℕ} (λ one other. Equal) (Some 7 ∷ Some 8 ∷ []) 7
first_of_two_equal = record { before = []; after = Some 8 ∷ []; are = refl; none_equal = λ k d below. absurd (not-suc-le-zero below) }

not_the_first_of_both : HasNoEqualAfter (λ one other. Equal) (Some true ∷ Some false ∷ []) true → ⊥
not_the_first_of_both has = by has.before has.after has.are has.none_equal
  where
    by : (before after : List (Option Bool)) → Some true ∷ Some false ∷ [] ≡ before ++ Some true ∷ after
        → All (λ other. option_map_or (λ other. true) other false ≡ false) after → ⊥
    by [] after are none =
        let is : after ≡ Some false ∷ [] = cc in
        let wrong : true ≡ false =
        subst (All (λ other. option_map_or (λ other. true) other false ≡ false)) is none 0 (Some false) (ltb-true 0 1 refl) in
        cc
    by (x ∷ []) after are none = cc
    by (x ∷ y ∷ []) after are none = cc
    by (x ∷ y ∷ z ∷ before) after are none = cc
