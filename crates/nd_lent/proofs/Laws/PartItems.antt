-- Laws of a part that was written: what that leaves of the whole.
use Rattle.std.proofs.Common.{◌≡◌, ℕ, ℤ, pos, negsuc, true, Option, List, refl, sym, ap, subst, ◌∙◌}
use Rattle.std.specs.List.{Contains}
use Rattle.std.specs.Prelude.{None}
use Rattle.std.proofs.lemmas.Bool.{cond-true}
use Rattle.ndarray_layout.specs.declared.Order.TheVariants.{RowMajor}
use Rattle.ndarray_layout.specs.Descends.{Descends}
use Rattle.ndarray_layout.specs.DistinctPlaces.{HasDistinctPlaces}
use Rattle.ndarray_layout.specs.Indices.{indices_in, is_index}
use Rattle.ndarray_layout.specs.View.{View, place_at, view_places}
use Rattle.ndarray_layout.proofs.Laws.Indices.{Contains-indices_in}
use Rattle.ndarray_layout.proofs.Laws.Lists.{Contains-map}
use Rattle.nd_access.specs.HasItems.{HasItemsOf}
use Rattle.nd_access.specs.Items.{item_at, item_at_place}
use Rattle.nd_lent.specs.WrittenPart.{HasWrittenPart, IsOutside}
use Rattle.nd_access.specs.Written.{KeepsAllBut}
use Rattle.nd_lent.proofs.Laws.SlicePlaces.{listed}

module _ {T : Type 0} {source : List ℕ → List ℕ} {given : List ℕ → Option T} {before after : List T} {whole part : View}
    (kept : Descends source whole part)
    (has : HasItemsOf given (record { items = before; view = part }) (record { items = after; view = part })) where
  in_part : (index : List ℕ) → is_index part.shape index ≡ true
      → item_at (record { items = after; view = whole }) (source index) ≡ given index
  in_part index here =
      let there = kept.places index here in
      cond-true (is_index whole.shape (source index)) (item_at_place after (place_at whole (source index))) None there.0
      ∙ sym (ap (item_at_place after) there.1)
      ∙ sym (cond-true (is_index part.shape index) (item_at_place after (place_at part index)) None here)
      ∙ has.items index here

  -- a place that is none of the part holds the same item
  same_there : (z : ℤ) → (Contains (view_places RowMajor part) z → ⊥) → item_at_place after z ≡ item_at_place before z
  same_there (pos place) none = has.spare place none
  same_there (negsuc below) none = refl

  out_of_part : HasDistinctPlaces whole → (index : List ℕ) → is_index whole.shape index ≡ true → IsOutside source part.shape index
      → item_at (record { items = after; view = whole }) index ≡ item_at (record { items = before; view = whole }) index
  out_of_part distinct index here outside =
      cond-true (is_index whole.shape index) (item_at_place after (place_at whole index)) None here
      ∙ same_there (place_at whole index) (λ of_part.
      let at = listed RowMajor part (place_at whole index) of_part in
      let there = kept.places at.0 at.1 in
      outside at.0 at.1 (distinct (source at.0) index there.0 here (sym there.1 ∙ at.2)))
      ∙ sym (cond-true (is_index whole.shape index) (item_at_place before (place_at whole index)) None here)

  -- a place of the part is one of the whole
  spare_kept : KeepsAllBut (view_places RowMajor whole) before after
  spare_kept place none = has.spare place (λ of_part. none
      (let at = listed RowMajor part (pos place) of_part in
      let there = kept.places at.0 at.1 in
      subst (Contains (view_places RowMajor whole)) (sym there.1 ∙ at.2)
      (Contains-map (place_at whole) (indices_in RowMajor whole.shape) (Contains-indices_in RowMajor whole.shape (source at.0) there.0))))

  -- the part's items were written, and the whole has them
  pub part_written : HasDistinctPlaces whole
      → HasWrittenPart source part.shape given (record { items = before; view = whole }) (record { items = after; view = whole })
  part_written distinct = record { view = refl; inside = in_part; outside = out_of_part distinct; spare = spare_kept }

  -- the same by another word for the part's shape
  pub part_written_as : {shape : List ℕ} → part.shape ≡ shape → HasDistinctPlaces whole
      → HasWrittenPart source shape given (record { items = before; view = whole }) (record { items = after; view = whole })
  part_written_as same distinct =
      subst (λ s. HasWrittenPart source s given (record { items = before; view = whole }) (record { items = after; view = whole })) same
      (part_written distinct)
