-- Laws of an item that is replaced: its index has the new one, and every other index of an array that owns its items has its own still.
use Rattle.std.proofs.Common.{◌≡◌, ◌≢◌, ℕ, ℤ, pos, negsuc, Bool, true, false, Some, List, length, set, refl, ap}
use Rattle.std.specs.Prelude.{if◌then◌else◌}
use Rattle.ndarray_layout.specs.Bounds.{IsInBounds}
use Rattle.ndarray_layout.specs.Indices.{is_index}
use Rattle.ndarray_layout.specs.Signed.{magnitude}
use Rattle.ndarray_layout.specs.View.{place_at}
use Rattle.nd_access.specs.Items.{ArrayValue, IsOwned, item_at, item_at_place, with_item}
use Rattle.nd_access.proofs.Laws.Lists.{set_other, set_same}

at_place : {T : Type 0} (items : List T) (z : ℤ) (x : T) → IsInBounds (length items) z
    → item_at_place (set items (magnitude z) x) z ≡ Some x
at_place items (pos place) x in_bounds = set_same items place in_bounds
at_place items (negsuc below) x in_bounds = absurd in_bounds

at_another : {T : Type 0} (items : List T) (z w : ℤ) (x : T) → IsInBounds (length items) z → w ≢ z
    → item_at_place (set items (magnitude z) x) w ≡ item_at_place items w
at_another items (pos place) (pos other) x in_bounds apart = set_other items place x other (λ same. apart (ap pos same))
at_another items (pos place) (negsuc below) x in_bounds apart = refl
at_another items (negsuc below) w x in_bounds apart = absurd in_bounds

pub replaced : {T : Type 0} (array : ArrayValue T) (index : List ℕ) (x : T) → IsOwned (length array.items) array.view
    → is_index array.view.shape index ≡ true → item_at (with_item array index x) index ≡ Some x
replaced array index x owned here = rw (here, here) (at_place array.items (place_at array.view index) x (owned.within index here))

pub kept : {T : Type 0} (array : ArrayValue T) (index other : List ℕ) (x : T) → IsOwned (length array.items) array.view → other ≢ index
    → item_at (with_item array index x) other ≡ item_at array other
kept {T} array index other x owned apart = by (is_index array.view.shape index) (is_index array.view.shape other) refl refl
  where
    by : (here there : Bool) → is_index array.view.shape index ≡ here → is_index array.view.shape other ≡ there
        → item_at (if here then record {
          items = set array.items
              (magnitude (place_at array.view index)) x;
          view = array.view;
        } else array) other
        ≡ item_at array other
    by false there h g = refl
    by true false h g = rw g refl
    by true true h g =
        let elsewhere : place_at array.view other ≢ place_at array.view index = λ same. apart (owned.distinct other index g h same) in
        rw g (at_another array.items (place_at array.view index) (place_at array.view other) x (owned.within index h) elsewhere)
