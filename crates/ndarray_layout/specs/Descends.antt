-- What a view keeps of the one that it was made of.
use Rattle.std.specs.Prelude.{◌≡◌, ℕ, pos, List, [], ◌∷◌, drop, nat_eq, slice_index, refl}
use Rattle.std.proofs.Common.{ap, eq-eqb}
use Rattle.std.proofs.lemmas.Bool.{both_ways}
use Rattle.ndarray_layout.specs.DistinctPlaces.{HasDistinctPlaces}
use Rattle.ndarray_layout.specs.KeepsPlaces.{KeepsPlaces}
use Rattle.ndarray_layout.specs.View.{View, IsView, LiesWithin, place_at}

-- a view of another one's data: each index stands for an index of the other, its source, and lies where that one does, so that
-- it lies within whatever data the other lies within
pub record IsViewOf (source : List ℕ → List ℕ) (old new : View) : Type 0 where
  pub is_view : IsView new
  pub places : KeepsPlaces source old new
  pub in_bounds : (len : ℕ) → LiesWithin len old → LiesWithin len new

-- such a view, in which no two indices alias where no two of the other do
pub record Descends (source : List ℕ → List ℕ) (old new : View) : Type 0 where
  pub is_view : IsView new
  pub places : KeepsPlaces source old new
  pub in_bounds : (len : ℕ) → LiesWithin len old → LiesWithin len new
  pub distinct : HasDistinctPlaces old → HasDistinctPlaces new

-- examples
abbrev row : View
row = record { start = 3; shape = 3 ∷ []; strides = pos 1 ∷ [] }

abbrev row_twice : View
row_twice = record { start = 3; shape = 2 ∷ 3 ∷ []; strides = pos 0 ∷ pos 1 ∷ [] }

last_of_the_second : IsViewOf (drop 1) row row_twice → place_at row_twice (1 ∷ 2 ∷ []) ≡ pos 5
last_of_the_second twice = (twice.places (1 ∷ 2 ∷ []) refl).1

from_itself : IsView row → Descends (λ index. index) row row
from_itself v =
    record { is_view = v; places = λ index here. (here, refl); in_bounds = λ len within. within; distinct = λ distinct. distinct }

-- the two rows are one in the data
both_rows_are_one : Descends (drop 1) row row_twice → HasDistinctPlaces row → ⊥
both_rows_are_one twice distinct =
    let same = twice.distinct distinct (0 ∷ 0 ∷ []) (1 ∷ 0 ∷ []) refl refl refl in
    both_ways (nat_eq 0 1) refl (eq-eqb 0 1 (ap (λ index. slice_index index 0) same))
