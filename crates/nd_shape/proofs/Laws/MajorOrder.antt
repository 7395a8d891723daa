-- Laws of layouts whose indices lie one after another: they are those of the rule on strides.
use Rattle.std.proofs.Common.{◌≡◌, ◌≢◌, ℕ, zero, suc, ◌+◌, ◌<◌, ℤ, pos, ◌+ℤ◌, ◌*ℤ◌, true, List, [], ◌∷◌, length, get_or}
use Rattle.std.proofs.Common.{map, replicate, set, inl, inr, refl, sym, ap, ◌∙◌, ◌↔◌, arith}
use Rattle.std.proofs.lemmas.Bool.{and_parts, cases_Bool, cases_eq, ltb-true}
use Rattle.std.proofs.lemmas.Int.{ints}
use Rattle.std.proofs.lemmas.List.{get_or-map, length-map}
use Rattle.std.proofs.lemmas.List.FromFn.{get_or-map-range_with_len}
use Rattle.nd_base.specs.declared.order.Order.{Order}
use Rattle.nd_base.proofs.Laws.Definitions.{below, indices_in, is_index, offset_of, place, flat_index_in, is_empty, size}
use Rattle.nd_base.proofs.Laws.Coordinates.{is_index-step_along, step_along}
use Rattle.nd_base.proofs.Laws.Indices.{get_or-indices_in, indices_in_of_empty, length-indices_in}
use Rattle.nd_base.proofs.Laws.Offset.{offset_of-zeros}
use Rattle.nd_base.proofs.Laws.FlatIndex.{flat_index_in-lt-size, index_of_flat_in-flat_index_in}
use Rattle.nd_base.proofs.Laws.Size.{length_pos, size_of_empty}
use Rattle.nd_shape.specs.MajorOrder.{LiesInOrder, SatisfiesOrderRule}
use Rattle.nd_shape.specs.ShapeBuilder.{standard_strides}
use Rattle.nd_base.proofs.Laws.Place.{places_at_flat_indices}
use Rattle.nd_shape.proofs.Laws.StandardStrides.{offset_of-standard_strides, standard_count}

-- ---- from the rule
-- strides that agree on the axes of other lengths than 1 lead to the same offsets
same_offset : (shape : List ℕ) (strides others : List ℤ) (index : List ℕ)
    → (length strides ≡ length shape) × (length others ≡ length shape) → is_index shape index ≡ true
    → ((axis : ℕ) → axis < length shape → get_or shape axis 0 ≢ 1 → get_or strides axis (pos 0) ≡ get_or others axis (pos 0))
    → offset_of strides index ≡ offset_of others index
same_offset [] strides others [] e h same = refl
same_offset [] strides others (i ∷ index) e h same = absurd (cc)
same_offset (len ∷ lens) strides others [] e h same = absurd (cc)
same_offset (len ∷ lens) [] others (i ∷ index) e h same = absurd (omega (arith, e.0))
same_offset (len ∷ lens) (s ∷ strides) [] (i ∷ index) e h same = absurd (omega (arith, e.1))
same_offset (len ∷ lens) (s ∷ strides) (t ∷ others) (i ∷ index) e h same =
    let parts = and_parts _ _ h in
    let within : i < len = ltb-true i len parts.0 in
    let rest = same_offset lens strides others index (omega (arith, e.0), omega (arith, e.1)) parts.1
    (λ axis l ne. same (suc axis) (omega arith) ne) in
    elim (cases_eq len 1) [
      | inl one ↦
          let none : i ≡ 0 = omega arith in
          rw none (omega (arith, ints, rest))
      | inr ne ↦ ap (λ z. (pos i *ℤ z) +ℤ offset_of strides index) (same 0 (omega arith) ne) ∙ ap (λ z. (pos i *ℤ t) +ℤ z) rest
    ]

empty_in_order : (order : Order) (shape : List ℕ) (strides : List ℤ) → is_empty shape ≡ true → LiesInOrder order shape strides
empty_in_order order shape strides none start =
    let size : size shape ≡ 0 = size_of_empty shape none in
    ap (map (place start strides)) (indices_in_of_empty order shape size) ∙ sym (ap (λ n. map (λ r. pos (start + r)) (below n)) size)

pub in_order_from_rule : (order : Order) (shape : List ℕ) (strides : List ℤ) → length strides ≡ length shape
    → SatisfiesOrderRule order shape strides → LiesInOrder order shape strides
in_order_from_rule order shape strides e (inl none) = empty_in_order order shape strides none
in_order_from_rule order shape strides e (inr rule) =
    let standard = standard_strides order shape in
    let count = standard_count order shape in
    λ start. places_at_flat_indices order start shape strides (λ index h.
    same_offset shape strides (map pos standard) index (e, length-map standard pos ∙ count) h
    (λ axis l ne. rule axis l ne ∙ sym (get_or-map pos standard axis 0 (pos 0) (omega arith)))
    ∙ offset_of-standard_strides order shape index h)

-- ---- to the rule
-- where the indices lie in order, each lies at its flat index
pub flat_index_from_in_order : (order : Order) (shape : List ℕ) (strides : List ℤ) → LiesInOrder order shape strides → (index : List ℕ)
    → is_index shape index ≡ true → offset_of strides index ≡ pos (flat_index_in order shape index)
flat_index_from_in_order order shape strides lies index h =
    let r = flat_index_in order shape index in
    let within : r < size shape = flat_index_in-lt-size order shape index h in
    let xs = indices_in order shape in
    let there = get_or-map (place 0 strides) xs r [] (pos 0) (omega (arith, length-indices_in order shape))
    ∙ ap (place 0 strides) (get_or-indices_in order shape r [] within ∙ index_of_flat_in-flat_index_in order shape index h) in
    let here = get_or-map-range_with_len (λ n. pos (0 + n)) 0 (size shape) r r (pos 0) within (omega arith) in
    let same = sym there ∙ ap (λ zs. get_or zs r (pos 0)) (lies 0) ∙ here in
    omega (arith, ints, same)

-- one step along an axis moves by its stride
offset_of-step : (strides : List ℤ) (n axis : ℕ) → length strides ≡ n → axis < n
    → offset_of strides (set (replicate n 0) axis 1) ≡ get_or strides axis (pos 0)
offset_of-step strides zero axis e h = absurd (omega arith)
offset_of-step [] (suc n) axis e h = absurd (omega arith)
offset_of-step (s ∷ strides) (suc n) zero e h = omega (arith, ints, offset_of-zeros strides n)
offset_of-step (s ∷ strides) (suc n) (suc axis) e h = omega (arith, ints, offset_of-step strides n axis (omega arith) (omega arith))

module _ (order : Order) (shape : List ℕ) (strides : List ℤ) (e : length strides ≡ length shape) where
  pub rule_from_in_order : LiesInOrder order shape strides → SatisfiesOrderRule order shape strides
  rule_from_in_order lies =
      let standard = standard_strides order shape in
      let count = standard_count order shape in
      elim (cases_Bool (is_empty shape)) [
        | inl none ↦ inl none
        | inr some ↦ inr (λ axis l ne.
            let index = step_along shape axis in
            let more : 1 < get_or shape axis 0 = omega (arith, length_pos shape axis some l) in
            let h = is_index-step_along shape axis some l more in
            sym (offset_of-step strides (length shape) axis e l)
            ∙ flat_index_from_in_order order shape strides lies index h
            ∙ sym (offset_of-standard_strides order shape index h)
            ∙ offset_of-step (map pos standard) (length shape) axis (length-map standard pos ∙ count) l
            ∙ get_or-map pos standard axis 0 (pos 0) (omega arith))
      ]

  -- the indices lie in order exactly where the rule holds
  pub in_order_exactly : LiesInOrder order shape strides ↔ SatisfiesOrderRule order shape strides
  in_order_exactly = (rule_from_in_order, in_order_from_rule order shape strides e)
