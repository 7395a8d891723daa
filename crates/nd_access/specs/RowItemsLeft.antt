-- The items that are left of a row, of which some were taken at either end.
use Rattle.std.specs.Prelude.{◌≡◌, ℕ, ◌-◌, ◌<◌, ◌≤◌, negsuc, Option, Some, List, [], ◌∷◌, drop, take, refl}
use Rattle.ndarray_layout.specs.declared.Row.{Row}
use Rattle.nd_access.specs.LentRow.{HasRow, RowValue, row_items, row_of}

-- those from one coordinate on, to before another one
abbrev pub row_items_left : {T : Type 0} → RowValue T → ℕ → ℕ → List (Option T)
row_items_left value begun end = take (end - begun) (drop begun (row_items value))

-- where some are left, the row has one of so many items for each of its coordinates
pub record HasRowLeft (count : ℕ) (row : Row) (begun end : ℕ) : Type 0 where
  pub begun_first : begun ≤ end
  pub within : end ≤ row.len
  pub has : begun < end → HasRow count row

-- examples
abbrev backwards : RowValue ℕ
backwards = row_of (7 ∷ 8 ∷ 9 ∷ []) (record { start = 2; stride = negsuc 0; len = 3 })

first_and_last_gone : row_items_left backwards 1 2 ≡ Some 8 ∷ []
first_and_last_gone = refl

all_gone : row_items_left backwards 2 2 ≡ []
all_gone = refl
