-- Of the tiles so far the last one that has a pixel gives it its colour, and no part is out.
use Rattle.std.proofs.Common.{◌≡◌, ◌<◌, ℕ, pos, true, List, Some, get_or, length}
use Rattle.std.specs.List.{All, Contains}
use Rattle.std.specs.Prelude.{slice_get}
use Rattle.ndarray_layout.specs.declared.Order.TheVariants.{RowMajor}
use Rattle.ndarray_layout.specs.Indices.{is_index}
use Rattle.ndarray_layout.specs.View.{View, place_at, view_places}
use Rattle.nd_lent.specs.Items.{item_at}
use Rattle.example_callers.proofs.tiles.paint_tiles.Given as goal

abbrev pub invariant-loop-tile : goal.invariant-loop-tile
invariant-loop-tile l = record {
  count : length l.rest.items ≡ length l.fn.pixels;
  painted : (k : ℕ) (d : View × ℕ) (index : List ℕ) → k < l.tile-index → is_index (get_or l.tiles k d).0.shape index ≡ true
      → ((j : ℕ) → k < j → j < l.tile-index
      → Contains (view_places RowMajor (get_or l.tiles j d).0) (place_at (get_or l.tiles k d).0 index) → ⊥)
      → item_at (record { items = l.rest.items; view = (get_or l.tiles k d).0 }) index ≡ Some (get_or l.tiles k d).1;
  others : (place : ℕ) → All (λ tile. Contains (view_places RowMajor tile.0) (pos place) → ⊥) l.tiles
      → slice_get l.rest.items place ≡ slice_get l.fn.pixels place;
  same_right : l.rest.access ≡ l.initial.rest.access;
}
