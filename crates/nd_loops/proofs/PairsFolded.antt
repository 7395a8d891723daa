-- The items of two rows in step: of a coordinate, how many they are, and those of other rows after them.
use Rattle.std.proofs.Common.{◌≡◌, ℕ, ◌<◌, Some, None, ◌++◌, ◌∷◌, List, length, get_or, sym, ap, ◌∙◌, arith}
use Rattle.std.specs.Option.{option_zip}
use Rattle.std.proofs.lemmas.Simd.{get_or-zip2, length-zip2}
use Rattle.ndarray_layout.proofs.Laws.Folding.{IsItemAt, item_in_list}
use Rattle.nd_access.specs.LentRow.{RowValue, row_items, rows_items}
use Rattle.nd_access.specs.Zipped.{pairs_of}
use Rattle.nd_access.proofs.Laws.PairRows.{pairs_append}
use Rattle.nd_access.proofs.Laws.Pushed.{length-row_items}

module _ {T U : Type 0} (row : RowValue T) (other : RowValue U) (count : row.row.len ≡ other.row.len) where
  as_many : length (row_items row) ≡ length (row_items other)
  as_many = length-row_items row ∙ count ∙ sym (length-row_items other)

  pub length-pairs_of_rows : length (pairs_of (row_items row) (row_items other)) ≡ row.row.len
  length-pairs_of_rows = length-zip2 option_zip (row_items row) (row_items other) as_many ∙ length-row_items row

  pub pair_in_rows : {coordinate : ℕ} {x : T} {y : U} → coordinate < row.row.len → get_or (row_items row) coordinate None ≡ Some x
      → get_or (row_items other) coordinate None ≡ Some y
      → IsItemAt (pairs_of (row_items row) (row_items other)) coordinate (Some (x, y))
  pair_in_rows {coordinate} {x} below one another =
      item_in_list None (omega (arith, below, length-pairs_of_rows))
      (get_or-zip2 option_zip (row_items row) (row_items other) coordinate None None None
      (omega (arith, below, length-row_items row)) (omega (arith, below, count, length-row_items other))
      ∙ ap (λ item. option_zip item (get_or (row_items other) coordinate None)) one
      ∙ ap (option_zip (Some x)) another)

  pub first_pairs : (rows : List (RowValue T)) (others : List (RowValue U))
      → pairs_of (rows_items (row ∷ rows)) (rows_items (other ∷ others))
      ≡ pairs_of (row_items row) (row_items other) ++ pairs_of (rows_items rows) (rows_items others)
  first_pairs rows others = pairs_append (row_items row) (rows_items rows) (row_items other) (rows_items others) as_many
