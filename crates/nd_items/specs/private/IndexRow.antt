-- Where an iterator over indices stands in a row of them: what the contracts of private functions speak of.
use Rattle.std.specs.Prelude.{◌≡◌, ℕ, ◌+◌, ◌-◌, ◌<◌, ◌≤◌, true, List, get_or, length, set}
use Rattle.ndarray_layout.specs.FlatIndex.{flat_index}
use Rattle.ndarray_layout.specs.Indices.{is_index}
use Rattle.ndarray_layout.specs.Size.{size}
use Rattle.nd_items.specs.declared.next_index.InRow.{InRow}

-- an index with another last coordinate
abbrev pub with_last : List ℕ → ℕ → List ℕ
with_last index coordinate = set index (length index - 1) coordinate

-- how many indices a row has: the last length, or 1 without axes
abbrev pub row_len : List ℕ → ℕ
row_len shape = get_or shape (length shape - 1) 1

-- the flat index of the first index of an index's row
abbrev pub row_start : List ℕ → List ℕ → ℕ
row_start shape index = flat_index shape (with_last index 0)

-- how many indices are left
abbrev pub left_from : InRow → ℕ
left_from at = at.len - at.last + at.after

-- a row of a shape, by one of its indices, and how many come after it
pub record IsRow (shape index : List ℕ) (at : InRow) : Type 0 where
  pub here : is_index shape index ≡ true
  pub whole : at.len ≡ row_len shape
  pub counts : row_start shape index + at.len + at.after ≡ size shape

-- where indices are left, they are those of such a row from its last coordinate on, and those after it
pub record StandsInRow (shape index : List ℕ) (at : InRow) : Type 0 where
  pub within : at.last ≤ at.len
  pub row : 0 < left_from at → IsRow shape index at
