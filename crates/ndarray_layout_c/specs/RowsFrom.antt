-- Rows that have one stride and one length, as C reads them: where each starts.
use Rattle.std.specs.Prelude.{◌≡◌, ℕ, ℤ, pos, List, [], ◌∷◌, map, refl}
use Rattle.ndarray_layout.specs.declared.Row.{Row}

-- the rows from these starts
abbrev pub rows_from : ℤ → ℕ → List ℕ → List Row
rows_from stride len starts = map (λ start. record { start = start; stride = stride; len = len }) starts

-- examples
two_rows : rows_from (pos 1) 3 (3 ∷ 0 ∷ [])
    ≡ record { start = 3; stride = pos 1; len = 3 } ∷ record { start = 0; stride = pos 1; len = 3 } ∷ []
two_rows = refl

no_row : rows_from (pos 1) 3 [] ≡ []
no_row = refl
