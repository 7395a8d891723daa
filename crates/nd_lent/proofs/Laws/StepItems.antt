-- Laws of the items of an array that a step makes: they are those at the places of its view, and those of the sources of its indices.
use Rattle.std.proofs.Common.{◌≡◌, ℕ, List, map, ap, ◌∙◌}
use Rattle.ndarray_layout.specs.declared.Order.TheVariants.{RowMajor}
use Rattle.ndarray_layout.specs.Indices.{indices_in}
use Rattle.ndarray_layout.specs.View.{View, view_places}
use Rattle.ndarray_layout.proofs.Laws.Indices.{map-indices_in}
use Rattle.nd_lent.specs.ArrayOfStep.{IsArrayOfStep}
use Rattle.nd_access.specs.Items.{ArrayValue, item_at, item_at_place}
use Rattle.nd_access.proofs.Laws.IndexItems.{items_in_order}

module _ {T : Type 0} {keeps : (List ℕ → List ℕ) → View → View → Type 0} {source : List ℕ → List ℕ} {step : View → View}
    (old new : ArrayValue T)
    (array : IsArrayOfStep keeps source step old new) where
  pub items_of_step : map (item_at_place new.items) (view_places RowMajor new.view)
      ≡ map (item_at_place old.items) (view_places RowMajor (step old.view))
  items_of_step =
      ap (λ items. map (item_at_place items) (view_places RowMajor new.view)) array.items.items
      ∙ ap (λ view. map (item_at_place old.items) (view_places RowMajor view)) array.view

  pub items_of_sources : map (item_at_place new.items) (view_places RowMajor new.view)
      ≡ map (λ index. item_at old (source index)) (indices_in RowMajor (step old.view).shape)
  items_of_sources =
      items_in_order new
      ∙ map-indices_in RowMajor (item_at new) (λ index. item_at old (source index)) new.view.shape
      (λ index here. (array.items.shown index here).1)
      ∙ ap (λ view. map (λ index. item_at old (source index)) (indices_in RowMajor view.shape)) array.view
