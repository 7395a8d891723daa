-- The places that an iterator has still to give.
use Rattle.std.specs.Prelude.{◌≡◌, ℕ, ◌+◌, ◌+ℤ◌, ◌*ℤ◌, ◌<◌, ◌≤◌, ◌^◌, ◌==◌, ℤ, pos, negsuc, List, [], ◌∷◌, ◌++◌, if◌then◌else◌}
use Rattle.std.specs.Prelude.{◌-◌, Option, Some, None, drop, length, refl}
use Rattle.std.proofs.Math.Arith.{le→nltb}
use Rattle.std.proofs.Math.Dec.{lit≤}
use Rattle.std.specs.Ordering.{int_eq}
use Rattle.std.proofs.lemmas.Bool.{both_ways, ltb-true}
use Rattle.std.proofs.lemmas.Bool.Decides.{Decides-int_eq}
use Rattle.std.specs.List.{All}
use Rattle.nd_base.specs.Bounds.{IsInBounds}
use Rattle.nd_base.specs.Size.{limit}
use Rattle.ndarray_layout.specs.declared.strided.rows.Row.{Row}
use Rattle.ndarray_layout.specs.Rows.{row_places, rows_places}

-- so many places after this one in its row, and then those of rows
abbrev pub places_after : ℕ → ℤ → ℕ → List Row → List ℤ
places_after place stride left rows = drop 1 (row_places place stride (left + 1)) ++ rows_places rows

-- a row without its last place
abbrev pub but_last : Row → Row
but_last row = record { start = row.start; stride = row.stride; len = row.len - 1 }

-- this place comes after the last one of a row, unless that has none
pub record ComesAfter (row : Row) (last : ℕ) : Type 0 where
  pub place : 0 < row.len → pos last ≡ pos row.start +ℤ (pos row.len *ℤ row.stride)
  pub here : 0 < row.len → last ≤ limit

-- rows, and a last one after them, which is none where it has no place
abbrev pub rows_and : List Row → Row → List Row
rows_and rows last = rows ++ (if last.len == 0 then [] else last ∷ [])

-- the places of a row, or of none
abbrev pub places_of_row : Option Row → List ℤ
places_of_row None = []
places_of_row (Some row) = row_places row.start row.stride row.len

-- an iterator has these places left: each is an `isize` from 0 on, as is how many they are, and no row is empty
pub record ArePlacesLeft (place : ℕ) (stride : ℤ) (left : ℕ) (rows : List Row) : Type 0 where
  pub here : place ≤ limit
  pub in_bounds : All (IsInBounds (2 ^ 63)) (places_after place stride left rows)
  pub some : All (λ row. 0 < row.len) rows
  pub fits : length (places_after place stride left rows) ≤ limit

-- the places from one on, before another
abbrev pub stretch_places : ℕ → ℕ → List ℤ
stretch_places start end = row_places start (pos 1) (end - start)

-- an iterator has these places left: each is an `isize` from 0 on, as is how many they are
pub record IsStretchLeft (start end : ℕ) : Type 0 where
  pub ordered : start ≤ end
  pub fits : end ≤ 2 ^ 63
  pub few : end - start ≤ limit

-- the places of a stretch where there is one, else others
abbrev pub places_left : Option (List ℤ) → List ℤ → List ℤ
places_left (Some stretch) others = stretch
places_left None others = others

-- how many places are left is an `isize`
pub record AreFewLeft (places : List ℤ) : Type 0 where
  pub fits : length places ≤ limit

-- examples
rest_of_a_row : places_after 3 (pos 1) 1 (record { start = 0; stride = pos 1; len = 2 } ∷ []) ≡ pos 4 ∷ pos 0 ∷ pos 1 ∷ []
rest_of_a_row = refl

two_rows : rows_places (rows_and (record { start = 0; stride = pos 1; len = 2 } ∷ []) (record { start = 5; stride = pos 1; len = 1 }))
    ≡ pos 0 ∷ pos 1 ∷ pos 5 ∷ []
two_rows = refl

one_row : rows_and (record { start = 0; stride = pos 1; len = 2 } ∷ []) (record { start = 5; stride = pos 1; len = 0 })
    ≡ record { start = 0; stride = pos 1; len = 2 } ∷ []
one_row = refl

of_no_row : places_of_row None ≡ []
of_no_row = refl

of_one_row : places_of_row (Some (record { start = 5; stride = pos 1; len = 2 })) ≡ pos 5 ∷ pos 6 ∷ []
of_one_row = refl

at_the_end : places_after 3 (pos 1) 0 [] ≡ []
at_the_end = refl

all_but_the_last : but_last (record { start = 3; stride = negsuc 0; len = 2 }) ≡ record { start = 3; stride = negsuc 0; len = 1 }
all_but_the_last = refl

other_end : ComesAfter (record { start = 3; stride = negsuc 0; len = 1 }) 3 → ⊥
other_end after = both_ways (int_eq (pos 3) (pos 2)) refl ((Decides-int_eq (pos 3) (pos 2)).1 (after.place (lit≤ tt)))

row_below_0 : ArePlacesLeft 0 (negsuc 0) 1 [] → ⊥
row_below_0 left = left.in_bounds 0 (pos 0) (ltb-true 0 1 refl)

two_of_a_stretch : stretch_places 3 5 ≡ pos 3 ∷ pos 4 ∷ []
two_of_a_stretch = refl

none_of_others : places_left (Some []) (pos 9 ∷ []) ≡ []
none_of_others = refl

backwards : IsStretchLeft 1 0 → ⊥
backwards left = le→nltb 0 1 left.ordered

none_is_few : AreFewLeft []
none_is_few = record { fits = lit≤ tt }
