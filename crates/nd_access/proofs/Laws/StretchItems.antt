-- A law of a view whose places follow one another: the items there are a slice.
use Rattle.std.proofs.Common.{◌≡◌, ℕ, ◌+◌, ◌-◌, ◌≤◌, pos, List, length, map, take, drop, eqb}
use Rattle.std.proofs.Common.{refl, sym, ap, subst, ◌∙◌, arith, inl, inr, Some}
use Rattle.std.specs.List.{range_with_len}
use Rattle.std.proofs.lemmas.Bool.{cases_eq, cond-false, ne_eqb}
use Rattle.std.proofs.lemmas.Simd.{map-map}
use Rattle.ndarray_layout.specs.declared.Order.TheVariants.{RowMajor}
use Rattle.ndarray_layout.specs.Size.{size}
use Rattle.ndarray_layout.specs.Stretch.{IsStretch, stretch_start}
use Rattle.ndarray_layout.specs.View.{View, view_places}
use Rattle.nd_access.specs.Items.{item_at_place}
use Rattle.nd_access.proofs.Laws.Neighbours.{got_between}

module _ (view : View) (stretch : IsStretch RowMajor view) where
  -- where there is no index the numbers may begin anywhere
  places : view_places RowMajor view ≡ map pos (range_with_len (stretch_start view) (size view.shape))
  places = elim (cases_eq (size view.shape) 0) [
    | inl none ↦ stretch ∙ subst (λ (n : ℕ). map pos (range_with_len view.start n) ≡ map pos (range_with_len (stretch_start view) n))
        (sym none) refl
    | inr some ↦
        let first : stretch_start view ≡ view.start =
        cond-false {A = ℕ} (eqb (size view.shape) 0) 0 view.start (ne_eqb (size view.shape) 0 some) in
        stretch ∙ ap (λ (at : ℕ). map pos (range_with_len at (size view.shape))) (sym first)
  ]

  pub items_of_stretch : {X : Type 0} (items : List X) (start end : ℕ) → start ≡ stretch_start view
      → end ≡ stretch_start view + size view.shape → start + (end - start) ≤ length items
      → map Some (take (end - start) (drop start items)) ≡ map (item_at_place items) (view_places RowMajor view)
  items_of_stretch items start end from to below =
      let many : end - start ≡ size view.shape = omega arith in
      ap (λ (at : ℕ). map Some (take (end - start) (drop at items))) from
      ∙ ap (λ (n : ℕ). map Some (take n (drop (stretch_start view) items))) many
      ∙ sym (ap (map (item_at_place items)) places
      ∙ map-map (item_at_place items) pos (range_with_len (stretch_start view) (size view.shape))
      ∙ got_between items (stretch_start view) (size view.shape) (omega arith))
