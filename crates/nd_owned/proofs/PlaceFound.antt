-- An index that has a place is one of the shape: its item lies at the place, and what is written there is written at the index.
use Rattle.std.proofs.Common.{◌≡◌, ℕ, ◌<◌, ℤ, pos, Bool, true, false, List, Some, None, refl, sym, ap, subst, ◌∙◌}
use Rattle.std.specs.Prelude.{slice_get, slice_set, if◌then◌else◌, option_map}
use Rattle.std.proofs.lemmas.Option.{none-some, same_Some}
use Rattle.ndarray_layout.specs.Bounds.{IsInBounds}
use Rattle.ndarray_layout.specs.Indices.{is_index}
use Rattle.ndarray_layout.specs.Signed.{magnitude}
use Rattle.ndarray_layout.specs.View.{View, checked_place, place_at}
use Rattle.nd_lent.specs.Items.{ArrayValue, IsOwned, item_at, item_at_place, with_item}

-- what is there where a test finds it
tested : (is : Bool) (found place : ℤ) → Some place ≡ (if is then Some found else None) → (is ≡ true) × (found ≡ place)
tested true found place h = (refl, sym (same_Some place found h))
tested false found place h = absurd (none-some place (sym h))

module _ (view : View) (index : List ℕ) (place : ℕ) (told : option_map pos (Some place) ≡ checked_place view index) where
  pub place_found : (is_index view.shape index ≡ true) × (place_at view index ≡ pos place)
  place_found = tested (is_index view.shape index) (place_at view index) (pos place) told

  pub place_below : {count : ℕ} → IsOwned count view → place < count
  place_below {count} owned = subst (IsInBounds count) place_found.1 (owned.within index place_found.0)

pub item_found : {T : Type 0} (array : ArrayValue T) (index : List ℕ) (place : ℕ)
    → option_map pos (Some place) ≡ checked_place array.view index → item_at array index ≡ slice_get array.items place
item_found array index place told =
    let found = place_found array.view index place told in
    ap (λ is. if is then item_at_place array.items (place_at array.view index) else None) found.0
    ∙ ap (item_at_place array.items) found.1

pub item_written : {T : Type 0} (array : ArrayValue T) (index : List ℕ) (place : ℕ)
    → option_map pos (Some place) ≡ checked_place array.view index → (item : T)
    → record { items = slice_set array.items place item; view = array.view } ≡ with_item array index item
item_written {T} array index place told item =
    let found = place_found array.view index place told in
    let written : Bool → ℤ → ArrayValue T = λ is at.
    if is then record { items = slice_set array.items (magnitude at) item; view = array.view } else array in
    sym (ap (λ (is : Bool). written is (place_at array.view index)) found.0 ∙ ap (written true) found.1)
