-- The length of the last axis.
use Rattle.std.specs.Prelude.{◌≡◌, ℕ, List, [], ◌∷◌, refl}

-- the last length, or 0 without axes
abbrev pub last_len : List ℕ → ℕ
last_len [] = 0
last_len (len ∷ []) = len
last_len (len ∷ next ∷ lens) = last_len (next ∷ lens)

-- examples
last_of_three : last_len (3 ∷ 4 ∷ 5 ∷ []) ≡ 5
last_of_three = refl

last_of_none : last_len [] ≡ 0
last_of_none = refl
