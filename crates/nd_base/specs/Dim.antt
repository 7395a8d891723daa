-- The list of lengths that a dimension is.
use Rattle.std.specs.Prelude.{◌≡◌, ℕ, List, [], ◌∷◌, length, refl}
use Rattle.std.specs.List.{refill}
use Rattle.nd_base.specs.declared.dim.Dim.{Dim}

-- the numbers of a dimension, one for each axis
abbrev pub numbers_of : {A : Type 0} → Dim A → A
numbers_of d = d.index

-- the lengths of a dimension, in order
abbrev pub lengths : Dim (List ℕ) → List ℕ
lengths d = d.index

-- a dimension with these lengths in place of its own
abbrev pub with_lengths : Dim (List ℕ) → List ℕ → Dim (List ℕ)
with_lengths d xs = record d { index = xs }

-- a dimension with its lengths written over, one by one, by as many others
abbrev pub rewritten : Dim (List ℕ) → List ℕ → Dim (List ℕ)
rewritten d xs = record d { index = refill (length d.index) d.index xs }

-- examples
two_lengths : lengths (record { index = 2 ∷ 3 ∷ [] }) ≡ 2 ∷ 3 ∷ []
two_lengths = refl

other_lengths : lengths (with_lengths (record { index = 2 ∷ 3 ∷ [] }) (4 ∷ [])) ≡ 4 ∷ []
other_lengths = refl

written_over : lengths (rewritten (record { index = 2 ∷ 3 ∷ [] }) (5 ∷ 7 ∷ [])) ≡ 5 ∷ 7 ∷ []
written_over = refl
