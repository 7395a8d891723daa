-- The array of a step: the same items, by a view that descends from the view of the other.
use Rattle.std.proofs.Common.{◌≡◌, ℕ, List, Result, Ok, Err, refl, ap, subst, sym}
use Rattle.std.specs.Prelude.{OnOk}
use Rattle.ndarray_layout.specs.Descends.{Descends}
use Rattle.ndarray_layout.specs.View.{View}
use Rattle.nd_lent.specs.ArrayOfStep.{IsArrayOfStep, ShowsItemsOf}
use Rattle.nd_access.specs.Items.{ArrayValue, item_at_place}
pub use Rattle.nd_access.proofs.Laws.Marks.{part_descendant}
pub use Rattle.nd_access.proofs.Laws.Read.{read_step, read_view}

-- each index of the view shows the item of its source
pub shown : {T : Type 0} (items : List T) {source : List ℕ → List ℕ} {old new : View} → Descends source old new
    → ShowsItemsOf source (record { items = items; view = old }) (record { items = items; view = new })
shown items kept = record {
  items = refl;
  shown = λ index here. let there = kept.places index here in (there.0, rw (here, there.0) (ap (item_at_place items) there.1));
}

pub step_to : {T : Type 0} (items : List T) {source : List ℕ → List ℕ} {step : View → View} {old new : View} {array made : ArrayValue T}
    → record { items = items; view = old } ≡ array → made.items ≡ items → made.view ≡ new → new ≡ step old → Descends source old new
    → IsArrayOfStep Descends source step array made
step_to items {source} {step} {old} {new} {made = made} same these this view kept =
    subst (λ a. IsArrayOfStep Descends source step a made) same
    (subst (λ v. IsArrayOfStep Descends source step (record { items = items; view = old }) (record { items = made.items; view = v }))
    (sym this)
    (subst (λ xs. IsArrayOfStep Descends source step (record { items = items; view = old }) (record { items = xs; view = new })) (sym these)
    (record { view = view; items = shown items kept; kept = kept })))

-- the same of a step that changes the view in place
pub step_in_place : {T X E : Type 0} (result : Result X E) (items : List T) (source : List ℕ → List ℕ) (step : View → View) (old new : View)
    {array : ArrayValue T} → record { items = items; view = old } ≡ array → OnOk result (new ≡ step old)
    → OnOk result (Descends source old new)
    → OnOk result (IsArrayOfStep Descends source step array (record { items = items; view = new }))
step_in_place (Ok x) items source step old new same view kept = step_to items same refl refl view kept
step_in_place (Err e) items source step old new same view kept = tt
