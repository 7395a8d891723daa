-- The rest of a row of indices: what the contracts of private functions speak of.
use Rattle.std.specs.Prelude.{◌≡◌, ℕ, ◌+◌, ◌-◌, true, List, [], ◌∷◌, get_or, length, map, set, refl}
use Rattle.std.specs.List.{range_with_len}
use Rattle.ndarray_layout.specs.FlatIndex.{flat_index}
use Rattle.ndarray_layout.specs.Indices.{is_index}

-- an index with another last coordinate
abbrev pub with_last : List ℕ → ℕ → List ℕ
with_last index coordinate = set index (length index - 1) coordinate

-- an index and those after it up to a last coordinate, which it isn't
abbrev pub rest_of_row : List ℕ → ℕ → List (List ℕ)
rest_of_row index len =
    let first = get_or index (length index - 1) 0 in map (with_last index) (range_with_len first (len - first))

-- the flat index of the first index of the row after that of an index
abbrev pub next_row_of : List ℕ → List ℕ → ℕ
next_row_of shape index = flat_index shape (with_last index 0) + get_or shape (length index - 1) 0

-- it is that of an index
pub record IsNextRow (shape index next : List ℕ) : Type 0 where
  pub here : is_index shape next ≡ true
  pub flat : flat_index shape next ≡ next_row_of shape index

-- examples
two_left : rest_of_row (4 ∷ 1 ∷ []) 3 ≡ (4 ∷ 1 ∷ []) ∷ (4 ∷ 2 ∷ []) ∷ []
two_left = refl

none_left : rest_of_row (4 ∷ 3 ∷ []) 3 ≡ []
none_left = refl
