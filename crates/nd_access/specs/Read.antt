-- Items that are read by their places: each of these has a mark, and one of so many items.
use Rattle.std.specs.Prelude.{◌≡◌, ℕ, ℤ, pos, Bool, true, false, List, [], ◌∷◌, refl}
use Rattle.std.specs.List.{All}
use Rattle.std.proofs.lemmas.Bool.{false≢true, ltb-true}
use Rattle.ndarray_layout.specs.declared.Row.{Row}
use Rattle.ndarray_layout.specs.Bounds.{IsInBounds}
use Rattle.ndarray_layout.specs.Rows.{rows_places}
use Rattle.ndarray_layout.specs.View.{View}
use Rattle.nd_access.specs.ArrayView.{HasItems}
use Rattle.nd_access.specs.LentRow.{HasRow, places_of}
use Rattle.nd_access.specs.Part.{has_mark, AreMarked}
use Rattle.nd_access.specs.RowItemsLeft.{HasRowLeft}

-- each of these places has a mark
abbrev pub HaveMarks : List Bool → List ℤ → Type 0
HaveMarks marks places = All (λ place. has_mark marks place ≡ true) places

-- those of the indices of a view; indices may share one
pub record IsRead (marks : List Bool) (count : ℕ) (view : View) : Type 0 where
  pub has : HasItems count view
  pub marked : AreMarked marks view

-- those of a row
pub record IsRowRead (marks : List Bool) (count : ℕ) (row : Row) : Type 0 where
  pub has : HasRow count row
  pub marked : HaveMarks marks (places_of row)

-- those of a row of which some items were taken at either end
pub record IsRowLeftRead (marks : List Bool) (count : ℕ) (row : Row) (begun end : ℕ) : Type 0 where
  pub left : HasRowLeft count row begun end
  pub marked : HaveMarks marks (places_of row)

-- those of rows
pub record AreRowsRead (marks : List Bool) (count : ℕ) (rows : List Row) : Type 0 where
  pub has : All (HasRow count) rows
  pub marked : HaveMarks marks (rows_places rows)

-- those that an iterator has still to come to
pub record AreRead (marks : List Bool) (count : ℕ) (places : List ℤ) : Type 0 where
  pub within : All (IsInBounds count) places
  pub marked : HaveMarks marks places

-- examples
no_mark_between : HaveMarks (true ∷ false ∷ true ∷ []) (pos 0 ∷ pos 1 ∷ []) → ⊥
no_mark_between have = false≢true (have 1 (pos 0) (ltb-true 1 2 refl))

no_mark_past_the_end : AreRead (true ∷ []) 2 (pos 1 ∷ []) → ⊥
no_mark_past_the_end are = false≢true (are.marked 0 (pos 0) (ltb-true 0 1 refl))
