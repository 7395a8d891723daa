-- One element is lent beside the others, both change their items, and it is put back: so two are swapped.
use Rattle.std.proofs.Common.{◌≡◌, ◌≢◌, ℕ, zero, suc, ◌<◌, Bool, true, false, List, [], ◌∷◌, length, get_or, set, refl, sym, ap}
use Rattle.std.proofs.Common.{subst, ◌∙◌, arith}
use Rattle.std.specs.List.{swap}
use Rattle.std.specs.Prelude.{Some, slice_get}
use Rattle.std.proofs.lemmas.Bool.{false≢true}
use Rattle.std.proofs.lemmas.List.{length-set}
use Rattle.std.proofs.lemmas.List.Edits.{swap_is}
use Rattle.std.proofs.lemmas.Option.{none-some, same_Some}
use Rattle.nd_access.specs.Cells.{are_within, chosen_of, span_of, without}
use Rattle.nd_access.proofs.Laws.OwnPlaces.{left_elsewhere}
use Rattle.nd_access.proofs.Laws.SliceOfPart.{span_within}

-- ---- marks
pub one_within : (marks : List Bool) (place : ℕ) → get_or marks place false ≡ true → are_within (span_of place 1 marks) marks ≡ true
one_within marks place mine = span_within place 1 marks (λ k at below is.
    let same : at ≡ place = omega arith in subst (λ (n : ℕ). get_or marks n false ≡ true) (sym same) mine)

pub in_span : (marks : List Bool) (place : ℕ) → get_or marks place false ≡ true → get_or (span_of place 1 marks) place false ≡ true
in_span [] place mine = absurd (false≢true mine)
in_span (m ∷ marks) zero mine = refl
in_span (m ∷ marks) (suc place) mine = in_span marks place mine

pub beside : (marks : List Bool) (one other : ℕ) → one ≢ other → get_or marks one false ≡ true
    → get_or (without (span_of other 1 marks) marks) one false ≡ true
beside marks one other apart mine = left_elsewhere other marks one apart ∙ mine

-- ---- items
pub got : {T : Type 0} (xs : List T) (i : ℕ) {x : T} (d : T) → slice_get xs i ≡ Some x → (i < length xs) × (get_or xs i d ≡ x)
got [] i {x} d is = absurd (none-some x is)
got (y ∷ xs) zero {x} d is = (omega arith, same_Some y x is)
got (y ∷ xs) (suc i) d is = let rest = got xs i d is in (omega (arith, rest.0), rest.1)

chosen_none : {T : Type 0} (marks : List Bool) (xs ys : List T) → length xs ≡ length marks → length ys ≡ length marks
    → chosen_of (span_of 0 0 marks) xs ys ≡ ys
chosen_none [] xs [] e f = refl
chosen_none [] xs (y ∷ ys) e f = absurd (let no : ⊥ = omega (arith, f) in no)
chosen_none (m ∷ marks) [] ys e f = absurd (let no : ⊥ = omega (arith, e) in no)
chosen_none (m ∷ marks) (x ∷ xs) [] e f = absurd (let no : ⊥ = omega (arith, f) in no)
chosen_none (m ∷ marks) (x ∷ xs) (y ∷ ys) e f = ap (λ rest. y ∷ rest) (chosen_none marks xs ys (omega (arith, e)) (omega (arith, f)))

chosen_one : {T : Type 0} (place : ℕ) (marks : List Bool) (xs ys : List T) (x : T) → length xs ≡ length marks → length ys ≡ length marks
    → chosen_of (span_of place 1 marks) (set xs place x) ys ≡ set ys place x
chosen_one zero [] xs [] x e f = refl
chosen_one (suc place) [] xs [] x e f = refl
chosen_one zero [] xs (y ∷ ys) x e f = absurd (let no : ⊥ = omega (arith, f) in no)
chosen_one (suc place) [] xs (y ∷ ys) x e f = absurd (let no : ⊥ = omega (arith, f) in no)
chosen_one zero (m ∷ marks) [] ys x e f = absurd (let no : ⊥ = omega (arith, e) in no)
chosen_one (suc place) (m ∷ marks) [] ys x e f = absurd (let no : ⊥ = omega (arith, e) in no)
chosen_one zero (m ∷ marks) (z ∷ xs) [] x e f = absurd (let no : ⊥ = omega (arith, f) in no)
chosen_one (suc place) (m ∷ marks) (z ∷ xs) [] x e f = absurd (let no : ⊥ = omega (arith, f) in no)
chosen_one zero (m ∷ marks) (z ∷ xs) (y ∷ ys) x e f =
    ap (λ rest. x ∷ rest) (chosen_none marks xs ys (omega (arith, e)) (omega (arith, f)))
chosen_one (suc place) (m ∷ marks) (z ∷ xs) (y ∷ ys) x e f =
    ap (λ rest. y ∷ rest) (chosen_one place marks xs ys x (omega (arith, e)) (omega (arith, f)))

pub swapped : {T : Type 0} (marks : List Bool) (items : List T) (one other : ℕ) {x y : T} → length items ≡ length marks
    → slice_get items one ≡ Some x → slice_get items other ≡ Some y
    → chosen_of (span_of other 1 marks) (set items other x) (set items one y) ≡ swap items one other
swapped marks items one other {x} {y} many first second =
    let a = got items one x first in
    let b = got items other x second in
    chosen_one other marks items (set items one y) x many (length-set items one y ∙ many)
    ∙ ap (λ z. set (set items one z) other x) (sym b.1)
    ∙ ap (λ z. set (set items one (get_or items other x)) other z) (sym a.1)
    ∙ swap_is items one other x a.0 b.0

-- an item that takes its own place
set_own : {T : Type 0} (xs : List T) (i : ℕ) (d : T) → set xs i (get_or xs i d) ≡ xs
set_own [] i d = refl
set_own (x ∷ xs) zero d = refl
set_own (x ∷ xs) (suc i) d = ap (λ rest. x ∷ rest) (set_own xs i d)
