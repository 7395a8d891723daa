-- The places that an iterator over items has still to give, as it goes to the next of them.
use Rattle.std.proofs.Common.{◌≡◌, ℕ, ℤ, List, subst, sym, ap, ◌∙◌}
use Rattle.std.specs.List.{All}
use Rattle.ndarray_layout.specs.declared.Order.TheVariants.{RowMajor}
use Rattle.ndarray_layout.specs.Bounds.{IsInBounds}
use Rattle.ndarray_layout.specs.View.{View, LiesWithin, view_places}
use Rattle.ndarray_layout.proofs.Laws.View.{places_lie_within}

-- places of a view that has one of the items for each index lie among them
pub are_in_bounds : {len : ℕ} (view : View) {places : List ℤ} → LiesWithin len view → places ≡ view_places RowMajor view
    → All (IsInBounds len) places
are_in_bounds {len} view within are = subst (All (IsInBounds len)) (sym are) (places_lie_within len RowMajor view within)

-- the places of a view are those of one that is equal
pub all_places : {view other : View} {places : List ℤ} → places ≡ view_places RowMajor view → view ≡ other
    → places ≡ view_places RowMajor other
all_places are same = are ∙ ap (view_places RowMajor) same
