-- Items that are lent one after another.
use Rattle.std.specs.Prelude.{ℕ, Option, Some, None, List, [], ◌∷◌, length, nat_eq, refl}
use Rattle.std.specs.Iterator.{YieldsFirstBy, YieldsLastBy}
use Rattle.std.specs.Borrow.{MutBor}
use Rattle.std.proofs.Common.{Bor, ap, eq-eqb}
use Rattle.std.proofs.lemmas.Bool.{both_ways}

-- of the items that are left the first is lent, and the others are left; there is none where none is left
abbrev pub lends : {T : Type 0} → List (Option T) → Option (Bor T) → List (Option T) → Type 0
lends = YieldsFirstBy (λ item. Some item.now) (λ left. left)

-- the same from the back: the last is lent
abbrev pub lends_last : {T : Type 0} → List (Option T) → Option (Bor T) → List (Option T) → Type 0
lends_last = YieldsLastBy (λ item. Some item.now) (λ left. left)

-- the first is lent to be written
abbrev pub lends_mut : {T : Type 0} → List (Option T) → Option (MutBor T) → List (Option T) → Type 0
lends_mut = YieldsFirstBy (λ item. Some item.now) (λ left. left)

-- examples
first_is_lent : (item : Bor ℕ) → lends (Some item.now ∷ Some 8 ∷ []) (Some item) (Some 8 ∷ [])
first_is_lent item = refl

none_of_none : lends {T = ℕ} [] None []
none_of_none = (refl, refl)

none_of_one : lends {T = ℕ} (Some 7 ∷ []) None [] → ⊥
none_of_one lent = both_ways (nat_eq 1 0) refl (eq-eqb 1 0 (ap length lent.0))

still_left : (item : Bor ℕ) → lends (Some item.now ∷ []) (Some item) (Some item.now ∷ []) → ⊥
still_left item lent = both_ways (nat_eq 1 2) refl (eq-eqb 1 2 (ap length lent))

last_is_lent : (item : Bor ℕ) → lends_last (Some 8 ∷ Some item.now ∷ []) (Some item) (Some 8 ∷ [])
last_is_lent item = refl

last_of_none : lends_last {T = ℕ} [] None []
last_of_none = (refl, refl)

last_still_left : (item : Bor ℕ) → lends_last (Some item.now ∷ []) (Some item) (Some item.now ∷ []) → ⊥
last_still_left item lent = both_ways (nat_eq 1 2) refl (eq-eqb 1 2 (ap length lent))

first_is_lent_mut : (item : MutBor ℕ) → lends_mut (Some item.now ∷ Some 8 ∷ []) (Some item) (Some 8 ∷ [])
first_is_lent_mut item = refl

still_left_mut : (item : MutBor ℕ) → lends_mut (Some item.now ∷ []) (Some item) (Some item.now ∷ []) → ⊥
still_left_mut item lent = both_ways (nat_eq 1 2) refl (eq-eqb 1 2 (ap length lent))
