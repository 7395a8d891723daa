-- An index of the transpose is one of the picture, read from its end.
use Rattle.std.proofs.Common.{◌≡◌, ℕ, Bool, true, false, [], ◌∷◌, refl, sym, ap, ◌∙◌, rules, reverse}
use Rattle.ndarray_layout.specs.Indices.{is_index}
use Rattle.ndarray_layout.specs.PermutedView.{reversed_of}
use Rattle.ndarray_layout.proofs.Laws.IsIndex.{is_index-reverse}
use Rattle.nd_owned.specs.ArrayOfStep.{ShowsItemsOf}
use Rattle.nd_owned.specs.Owned.{ArrayValue, item_at}
use Rattle.example_callers.proofs.transposes.pixel_across.Goals as goal

module _ (old new : ArrayValue ℕ) (row column : ℕ) (is : new.view ≡ reversed_of old.view) (shows : ShowsItemsOf reverse old new) where
  across : item_at new (row ∷ column ∷ []) ≡ item_at old (column ∷ row ∷ [])
  across = by (is_index new.view.shape (row ∷ column ∷ [])) refl
    where
      by : (here : Bool) → is_index new.view.shape (row ∷ column ∷ []) ≡ here
          → item_at new (row ∷ column ∷ []) ≡ item_at old (column ∷ row ∷ [])
      by true here = (shows.shown (row ∷ column ∷ []) here).1
      by false here =
          let there : is_index old.view.shape (column ∷ row ∷ []) ≡ false =
          sym (is_index-reverse old.view.shape (column ∷ row ∷ []))
          ∙ ap (λ view. is_index view.shape (row ∷ column ∷ [])) (sym is)
          ∙ here in
          rw (here, there) refl

pub returns : goal.returns
returns c =
    let same = across c.args.picture c.reversed_axes-across.result c.args.row c.args.column c.reversed_axes-across.ensures.view
    c.reversed_axes-across.ensures.items in
    search (rules, same)
