-- An item that is written at the place of an index is written at the index.
use Rattle.std.proofs.Common.{◌≡◌, ℕ, ℤ, pos, Bool, true, false, List, Some, None, refl, sym, ap, ◌∙◌}
use Rattle.std.specs.Prelude.{slice_set, if◌then◌else◌, option_map}
use Rattle.std.proofs.lemmas.Option.{none-some, same_Some}
use Rattle.ndarray_layout.specs.Indices.{is_index}
use Rattle.ndarray_layout.specs.Signed.{magnitude}
use Rattle.ndarray_layout.specs.View.{checked_place, place_at}
use Rattle.nd_lent.specs.declared.array_view_mut.ArrayViewMut.{ArrayViewMut}
use Rattle.nd_lent.specs.LendsItem.{with_items, with_item_at, with_item_of}
use Rattle.nd_lent.specs.Lent.{array_of}

-- what is there where a test finds it
tested : (is : Bool) (found place : ℤ) → Some place ≡ (if is then Some found else None) → (is ≡ true) × (found ≡ place)
tested true found place h = (refl, sym (same_Some place found h))
tested false found place h = absurd (none-some place (sym h))

pub item_written : {T D : Type 0} {lens count eq text at : _} (part : ArrayViewMut T D lens count eq text at) (index : List ℕ) (place : ℕ)
    → option_map pos (Some place) ≡ checked_place part.view index → (item : T) → with_item_at part place item ≡ with_item_of part index item
item_written part index place told item =
    let found = tested (is_index part.view.shape index) (place_at part.view index) (pos place) told in
    let written = λ (is : Bool) (at : ℤ). with_items part
    (if is then record { items = slice_set part.cells.items (magnitude at) item; view = part.view } else array_of part).items in
    sym (ap (λ (is : Bool). written is (place_at part.view index)) found.0 ∙ ap (written true) found.1)
