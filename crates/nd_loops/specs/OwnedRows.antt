-- Rows whose places a right has to itself: what the contracts of private functions speak of.
use Rattle.std.specs.Prelude.{◌<◌, ◌^◌, pos, true, Bool, List, [], ◌∷◌, refl}
use Rattle.std.specs.List.{All}
use Rattle.std.proofs.lemmas.Bool.{ltb-true}
use Rattle.ndarray_layout.specs.declared.Row.{Row}
use Rattle.ndarray_layout.specs.Bounds.{IsInBounds}
use Rattle.ndarray_layout.specs.Rows.{row_places, rows_places}
use Rattle.nd_access.specs.Own.{AreOwn}

-- a row of which each place is its own
pub record OwnsRow (marks : List Bool) (row : Row) : Type 0 where
  pub short : row.len < 2 ^ 63
  pub fit : All (IsInBounds (2 ^ 63)) (row_places row.start row.stride row.len)
  pub own : AreOwn marks (row_places row.start row.stride row.len)

-- rows of which each place is their own, and no two share one
pub record OwnsEachRow (marks : List Bool) (rows : List Row) : Type 0 where
  pub short : All (λ row. row.len < 2 ^ 63) rows
  pub fit : All (IsInBounds (2 ^ 63)) (rows_places rows)
  pub own : AreOwn marks (rows_places rows)

-- examples
abbrev first_of_two : Row
first_of_two = record { start = 0; stride = pos 1; len = 1 }

same_row_twice : OwnsEachRow (true ∷ true ∷ []) (first_of_two ∷ first_of_two ∷ []) → ⊥
same_row_twice owns = owns.own.apart 0 1 (pos 0) (ltb-true 0 1 refl) (ltb-true 1 2 refl) refl
