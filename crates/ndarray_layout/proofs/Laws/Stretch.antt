-- Laws of views whose places follow one another.
use Rattle.std.proofs.Common.{◌≡◌, ◌↔◌, ℕ, zero, suc, ◌+◌, ◌-◌, ◌<◌, ◌≤◌, pos, true, eqb, List, [], ◌∷◌, map, get_or, refl}
use Rattle.std.proofs.Common.{sym, ap, subst, ◌∙◌, inl, inr, arith}
use Rattle.std.specs.List.{range_with_len}
use Rattle.std.proofs.lemmas.Bool.{cases_eq, cond-true, cond-false, eq-eqb, ne_eqb}
use Rattle.std.proofs.lemmas.Int.{ints}
use Rattle.std.proofs.lemmas.List.{get_or-map}
use Rattle.std.proofs.lemmas.List.FromFn.{get_or-range_with_len, length-range_with_len}
use Rattle.nd_base.specs.declared.order.Order.{Order}
use Rattle.nd_base.proofs.Laws.Definitions.{below, flat_index_in, index_of_flat_in, indices_in, is_index, place, size, IsInBounds}
use Rattle.nd_base.proofs.Laws.FlatIndex.{flat_index_in-index_of_flat_in, flat_index_in-lt-size, get_or-indices_in}
use Rattle.nd_base.proofs.Laws.FlatIndex.{index_of_flat_in-flat_index_in}
use Rattle.nd_base.proofs.Laws.FlatIndex.{is_index-index_of_flat_in, length-indices_in}
use Rattle.nd_base.proofs.Laws.Place.{places_at_flat_indices}
use Rattle.nd_shape.specs.MajorOrder.{LiesInOrder}
use Rattle.ndarray_layout.specs.Stretch.{IsStretch, stretch_start}
use Rattle.ndarray_layout.specs.View.{View, LiesWithin, place_at}

-- numbers that follow one another, as counted from the first
counted_from : (start a n : ℕ) → map pos (range_with_len (start + a) n) ≡ map (λ r. pos (start + r)) (range_with_len a n)
counted_from start a zero = refl
counted_from start a (suc n) =
    let next : start + a + 1 ≡ start + (a + 1) = omega arith in
    ap (λ rest. pos (start + a) ∷ rest) (ap (λ m. map pos (range_with_len m n)) next ∙ counted_from start (a + 1) n)

counted : (start n : ℕ) → map pos (range_with_len start n) ≡ map (λ r. pos (start + r)) (below n)
counted start n =
    let first : start ≡ start + 0 = omega arith in
    ap (λ m. map pos (range_with_len m n)) first ∙ counted_from start 0 n

-- where the places follow one another, each index lies at the start plus its flat index
pub place_in_stretch : (order : Order) (view : View) (index : List ℕ) → IsStretch order view → is_index view.shape index ≡ true
    → place_at view index ≡ pos (view.start + flat_index_in order view.shape index)
place_in_stretch order view index stretch here =
    let flat = flat_index_in order view.shape index in
    let below = flat_index_in-lt-size order view.shape index here in
    let all = indices_in order view.shape in
    let at : get_or all flat [] ≡ index =
    get_or-indices_in order view.shape flat [] below ∙ index_of_flat_in-flat_index_in order view.shape index here in
    sym (get_or-map (place view.start view.strides) all flat [] (pos 0) (omega (arith, length-indices_in order view.shape))
    ∙ ap (place_at view) at)
    ∙ ap (λ places. get_or places flat (pos 0)) stretch
    ∙ get_or-map pos (range_with_len view.start (size view.shape)) flat 0 (pos 0)
    (omega (arith, length-range_with_len view.start (size view.shape)))
    ∙ ap pos (get_or-range_with_len view.start (size view.shape) flat 0 below)

-- so the layout lies in order, wherever it starts, and the other way round
pub IsStretch-exactly : (order : Order) (view : View) → IsStretch order view ↔ LiesInOrder order view.shape view.strides
IsStretch-exactly order view = (
  λ stretch start. places_at_flat_indices order start view.shape view.strides (λ index here.
      omega (arith, ints, place_in_stretch order view index stretch here)),
  λ lies. lies view.start ∙ sym (counted view.start (size view.shape)),
)

-- data that the view lies within has all of them
pub stretch_in_bounds : (order : Order) (view : View) (len : ℕ) → IsStretch order view → LiesWithin len view
    → stretch_start view + size view.shape ≤ len
stretch_in_bounds order view len stretch within = elim (cases_eq (size view.shape) 0) [
  | inl none ↦
      let first : stretch_start view ≡ 0 = cond-true {A = ℕ} (eqb (size view.shape) 0) 0 view.start (eq-eqb (size view.shape) 0 none) in
      omega arith
  | inr some ↦
      let first : stretch_start view ≡ view.start =
      cond-false {A = ℕ} (eqb (size view.shape) 0) 0 view.start (ne_eqb (size view.shape) 0 some) in
      let last = size view.shape - 1 in
      let below : last < size view.shape = omega arith in
      let index = index_of_flat_in order view.shape last in
      let here = is_index-index_of_flat_in order view.shape last below in
      let place : place_at view index ≡ pos (view.start + last) = place_in_stretch order view index stretch here
      ∙ ap (λ flat. pos (view.start + flat)) (flat_index_in-index_of_flat_in order view.shape last below) in
      let lies : view.start + last < len = subst (IsInBounds len) place (within index here) in
      omega arith
]
