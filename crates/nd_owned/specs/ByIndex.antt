-- Calls of a function at one index after another, each in the form that a pattern takes apart.
use Rattle.std.specs.Prelude.{◌≡◌, ℕ, Some, List, map}
use Rattle.std.specs.Fn.{Called, Mut, Takes}
use Rattle.std.specs.Iterator.{CallableAtEachTurn}
use Rattle.nd_lent.specs.Mapped.{gives}

-- a call at the pattern of an index
abbrev pub CalledAtIndex : {F P R : Type 0} → Mut F (P × Unit {0}) R → (P → List ℕ) → F → List ℕ → R → F → Type 0
CalledAtIndex {P = P} g lens f index r f' = (pattern : P) × (lens pattern ≡ index) × Called g f (pattern, tt) r f'

-- f may be called at each pattern of an index
abbrev pub TakesIndex : {F P R : Type 0} → Mut F (P × Unit {0}) R → (P → List ℕ) → F → List ℕ → Type 0
TakesIndex {P = P} g lens f index = (pattern : P) → lens pattern ≡ index → Takes g f (pattern, tt)

-- f may be called at each of these indices in turn, as the calls before left it
abbrev pub CallableAtIndices : {F P R : Type 0} → Mut F (P × Unit {0}) R → (P → List ℕ) → List (List ℕ) → F → Type 0
CallableAtIndices {R = R} g lens indices f =
    CallableAtEachTurn gives (λ p x q. (r : R) × CalledAtIndex g lens p x r q) (TakesIndex g lens) (map Some indices) f
