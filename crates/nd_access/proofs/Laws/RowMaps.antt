-- All of some items: as a row, and place by place.
use Rattle.std.proofs.Common.{◌≡◌, ℕ, ◌<◌, ◌^◌, ℤ, pos, Some, List, length, get_or, map, sym, ap, subst, ◌∙◌, arith}
use Rattle.std.proofs.lemmas.Int.{ints}
use Rattle.std.proofs.Math.Seq.{take-length}
use Rattle.ndarray_layout.specs.Bounds.{IsInBounds}
use Rattle.ndarray_layout.specs.Rows.{row_places}
use Rattle.ndarray_layout.proofs.Laws.Rows.{get_or-row_places, length-row_places}
use Rattle.nd_access.specs.Items.{item_at_place}
use Rattle.nd_access.specs.LentRow.{HasRow}
use Rattle.nd_access.proofs.Laws.RowItems.{read_neighbours}

-- ---- place by place
pub all_neighbours : {X : Type 0} (xs : List X) → map (item_at_place xs) (row_places 0 (pos 1) (length xs)) ≡ map Some xs
all_neighbours xs = read_neighbours xs 0 (length xs) (omega arith) ∙ ap (map Some) (take-length xs)

-- ---- as a row
pub whole_row : (len : ℕ) → 0 < len → len < 2 ^ 63 → HasRow len (record { start = 0; stride = pos 1; len = len })
whole_row len some short = record {
  some = some;
  short = short;
  within = λ k d below. subst (IsInBounds len) (sym (at k d below)) (under k below);
  fit = λ k d below. subst (IsInBounds (2 ^ 63)) (sym (at k d below)) (omega (arith, short, under k below));
}
  where
    under : (k : ℕ) → k < length (row_places 0 (pos 1) len) → k < len
    under k below = omega (arith, below, length-row_places 0 (pos 1) len)

    at : (k : ℕ) (d : ℤ) → k < length (row_places 0 (pos 1) len) → get_or (row_places 0 (pos 1) len) k d ≡ pos k
    at k d below = get_or-row_places 0 (pos 1) len k d (under k below) ∙ omega (arith, ints)
