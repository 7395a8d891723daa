-- Faults of lists of writes, and what holds of each of them, one write after another.
use Rattle.std.proofs.Common.{◌≡◌, ℕ, ◌+◌, ◌-◌, ◌<◌, ◌≤◌, Bool, true, false, ◌&&◌, cond, Option, Some, None}
use Rattle.std.proofs.Common.{List, [], ◌∷◌, ◌++◌, length, get_or, map, take, drop, refl, sym, ap, subst, ◌∙◌, arith}
use Rattle.std.specs.List.{All, drop-map, list_all}
use Rattle.std.specs.Prelude.{MatchOption}
use Rattle.std.specs.Option.{option_or}
use Rattle.std.proofs.lemmas.List.{drop_all, length-map, length-drop, take_all}
use Rattle.std.proofs.lemmas.List.Elements.{All-append, All-cons}
use Rattle.ndarray_layout.specs.declared.ErrorKind.{ErrorKind}
use Rattle.ndarray_layout.specs.declared.ErrorKind.TheVariants.{IncompatibleShape}
use Rattle.ndarray_layout.specs.declared.Fit.TheVariants.{Strict}
use Rattle.ndarray_layout.specs.SliceFault.{argument_fault}
use Rattle.nd_lent.proofs.Laws.Lists.{IsItem}
use Rattle.nd_owned.specs.MultiSet.{Write, IsFaultOfWrites, IsIntersectionFault, counts_fault, has_count, slices_fault}
use Rattle.nd_lent.proofs.Laws.Lists.{next}
use Rattle.nd_lent.proofs.Laws.Faults.{both_none}

-- what is left after it, where that was cut off before
pub rest : {X Y : Type 0} (f : X → Y) (xs : List X) (i : ℕ) → map f (take (length xs - (i + 1)) (drop (i + 1) xs)) ≡ drop (i + 1) (map f xs)
rest f xs i = ap (map f) (take_all (length xs - (i + 1)) (drop (i + 1) xs) (omega (arith, length-drop (i + 1) xs)))
    ∙ sym (drop-map f (i + 1) xs)

-- at the end nothing is left
pub ended : {X Y : Type 0} (f : X → Y) (xs : List X) (i : ℕ) → length xs ≤ i → drop i (map f xs) ≡ []
ended f xs i end = drop_all i (map f xs) (omega (arith, length-map xs f))

-- one more item of a list
pub all_pushed : {A : Type 0} (P : A → Type 0) (old : List A) {new : List A} (x : A) → new ≡ old ++ x ∷ [] → All P old → P x → All P new
all_pushed P old x pushed all this = subst (All P) (sym pushed)
    (All-append P old (x ∷ []) all (All-cons P x [] this (λ k d below. absurd (omega arith))))

-- where those so far do, the fault is that of the next, and then that of those after it
pub next_fault : {T X : Type 0} (f : X → Write T) (shape : List ℕ) (xs : List X) (i : ℕ) {x : X} → i < length xs → x ≡ get_or xs i x
    → slices_fault shape (map f xs) ≡ slices_fault shape (drop i (map f xs))
    → slices_fault shape (map f xs) ≡ option_or (argument_fault Strict shape (f x).slice) (slices_fault shape (drop (i + 1) (map f xs)))
next_fault f shape xs i below is before = before ∙ ap (slices_fault shape) (next f xs i below is)

-- where all do that are left, the next does, and all after it
pub next_fits : {T X : Type 0} (f : X → Write T) (shape : List ℕ) (xs : List X) (i : ℕ) {x : X} → i < length xs → x ≡ get_or xs i x
    → slices_fault shape (drop i (map f xs)) ≡ None
    → (argument_fault Strict shape (f x).slice ≡ None) × (slices_fault shape (drop (i + 1) (map f xs)) ≡ None)
next_fits f shape xs i {x} below is none =
    both_none (argument_fault Strict shape (f x).slice) (slices_fault shape (drop (i + 1) (map f xs)))
    (sym (ap (slices_fault shape) (next f xs i below is)) ∙ none)

-- ---- counts of items
-- whether there are as many items for each, by those so far and the next
pub next_count : {T X : Type 0} (f : X → Write T) (shape : List ℕ) {xs : List X} {i : ℕ} {x : X} (have : Bool) {this : Bool}
    → IsItem xs i x → has_count shape (f x) ≡ this
    → list_all (has_count shape) (map f xs) ≡ (have && list_all (has_count shape) (drop i (map f xs)))
    → list_all (has_count shape) (map f xs) ≡ (have && (this && list_all (has_count shape) (drop (i + 1) (map f xs))))
next_count f shape {xs} {i} have item counts before =
    before
    ∙ ap (λ ys. have && list_all (has_count shape) ys) (next f xs i item.below item.is)
    ∙ ap (λ b. have && (b && list_all (has_count shape) (drop (i + 1) (map f xs)))) counts

pub none_more : (have after : Bool) → (have && (false && after)) ≡ false
none_more true after = refl
none_more false after = refl

-- ---- writes whose slices fit and have their counts
pub record HaveCounts {T : Type 0} (shape : List ℕ) (writes : List (Write T)) : Type 0 where
  pub fit : slices_fault shape writes ≡ None
  pub counts : list_all (has_count shape) writes ≡ true

pub have_counts : {T : Type 0} (shape : List ℕ) (writes : List (Write T)) → counts_fault shape writes ≡ None → HaveCounts shape writes
have_counts shape writes none =
    let parts = both_none (slices_fault shape writes) (cond (list_all (has_count shape) writes) None (Some IncompatibleShape)) none in
    record { fit = parts.0; counts = by (list_all (has_count shape) writes) parts.1 }
  where
    by : (have : Bool) → cond have None (Some IncompatibleShape) ≡ None → have ≡ true
    by true is = refl
    by false is = absurd (cc)

-- writes without an error
pub no_fault : {T : Type 0} (shape : List ℕ) (writes : List (Write T)) → counts_fault shape writes ≡ None
    → IsIntersectionFault shape writes None → IsFaultOfWrites shape writes None
no_fault shape writes none apart = subst (λ fault. MatchOption fault (IsIntersectionFault shape writes None) (λ kind. None ≡ Some kind))
    (sym none) apart

-- the fault of one write, by those of its slice and of its count
pub fault_of_one : {T : Type 0} (shape : List ℕ) (write : Write T) {fault : Option ErrorKind} {have : Bool}
    → argument_fault Strict shape write.slice ≡ fault → has_count shape write ≡ have
    → counts_fault shape (write ∷ []) ≡ option_or fault (cond have None (Some IncompatibleShape))
fault_of_one shape write {fault} {have} fits count =
    ap (λ first. option_or (option_or first None) (cond (has_count shape write && true) None (Some IncompatibleShape))) fits
    ∙ ap (λ b. option_or (option_or fault None) (cond (b && true) None (Some IncompatibleShape))) count
    ∙ by fault have
  where
    by : (fault : Option ErrorKind) (have : Bool) → option_or (option_or fault None) (cond (have && true) None (Some IncompatibleShape))
        ≡ option_or fault (cond have None (Some IncompatibleShape))
    by None true = refl
    by None false = refl
    by (Some kind) have = refl
