-- The rule on strides for indices that lie in order, of strides as they are kept.
use Rattle.std.proofs.Common.{◌≡◌, ◌≢◌, ◌↔◌, ℕ, ◌-◌, ◌<◌, ◌≤◌, ℤ, pos, Bool, false, List, length, get_or, reverse, inl, inr, Fits, w64}
use Rattle.std.proofs.Common.{arith, sym, ap, subst, ◌∙◌}
use Rattle.std.specs.Prelude.{IsTrue}
use Rattle.std.proofs.lemmas.Bool.{both_ways}
use Rattle.std.proofs.lemmas.Int.{of_z-to_z}
use Rattle.std.proofs.lemmas.List.{get_or-map, length-map, length-reverse, reverse-reverse}
use Rattle.nd_base.specs.declared.order.Order.{Order}
use Rattle.nd_base.specs.declared.order.Order.TheVariants.{RowMajor, ColumnMajor}
use Rattle.nd_base.proofs.Laws.Definitions.{all_signed, signed, unsigned, is_empty, limit, nonzero_size}
use Rattle.nd_base.proofs.Laws.Lists.{get_or-from_back, map-reverse}
use Rattle.nd_base.proofs.Laws.Size.{is_empty-reverse}
use Rattle.nd_dim.specs.Strides.{default_strides, fortran_strides}
use Rattle.nd_dim.proofs.Laws.Strides.{default_by_fortran}
use Rattle.nd_shape.specs.MajorOrder.{HasStandardStrides, LiesInOrder, SatisfiesOrderRule}
use Rattle.nd_shape.specs.ShapeBuilder.{standard_strides}
use Rattle.nd_shape.proofs.Laws.MajorOrder.{in_order_exactly}
use Rattle.nd_shape.proofs.Laws.StandardStrides.{standard_count, standard_signed}

module _ (order : Order) (lens : List ℕ) where
  signed_standard : (k : ℕ) → nonzero_size lens ≤ limit → k < length lens
      → signed (get_or (standard_strides order lens) k 0) ≡ pos (get_or (standard_strides order lens) k 0)
  signed_standard k top h =
      let standard = standard_strides order lens in
      let within : k < length standard = omega (arith, standard_count order lens) in
      sym (get_or-map signed standard k 0 (pos 0) within) ∙ ap (λ zs. get_or zs k (pos 0)) (standard_signed order lens top)
      ∙ get_or-map pos standard k 0 (pos 0) within

  module _ (strides : List ℕ) (count : length lens ≡ length strides) where
    pub rule_by_axes : nonzero_size lens ≤ limit
        → ((k : ℕ) → k < length lens → get_or lens k 0 ≢ 1 → get_or strides k 0 ≡ get_or (standard_strides order lens) k 0)
        → HasStandardStrides order lens (all_signed strides)
    rule_by_axes top same k h ne =
        get_or-map signed strides k 0 (pos 0) (omega arith) ∙ ap signed (same k h ne) ∙ signed_standard k top h

    pub axis_by_rule : (k : ℕ) → Fits w64 (get_or strides k 0) → is_empty lens ≡ false → SatisfiesOrderRule order lens (all_signed strides)
        → k < length lens → get_or lens k 0 ≢ 1 → get_or strides k 0 ≡ get_or (standard_strides order lens) k 0
    axis_by_rule k fit some (inl none) h ne = absurd (both_ways (is_empty lens) some none)
    axis_by_rule k fit some (inr rule) h ne =
        let same = sym (get_or-map signed strides k 0 (pos 0) (omega arith)) ∙ rule k h ne in
        sym (of_z-to_z w64 (get_or strides k 0) fit.fits) ∙ ap unsigned same

-- where the rule is tested, so is whether the indices lie in order
pub lies_by_rule : (order : Order) (lens strides : List ℕ) → length lens ≡ length strides → {b : Bool}
    → (IsTrue b ↔ SatisfiesOrderRule order lens (all_signed strides)) → (IsTrue b ↔ LiesInOrder order lens (all_signed strides))
lies_by_rule order lens strides count rule =
    let by = in_order_exactly order lens (all_signed strides) (length-map strides signed ∙ sym count) in
    (λ t. by.1 (rule.0 t), λ lies. rule.1 (by.0 lies))

-- ---- axes that are read from the back
-- the strides of the other order are those of the axes from the back
turned_standard : (order other : Order) (shape : List ℕ) (strides : List ℤ) → length shape ≡ length strides
    → standard_strides other (reverse shape) ≡ reverse (standard_strides order shape)
    → HasStandardStrides other (reverse shape) (reverse strides) → HasStandardStrides order shape strides
turned_standard order other shape strides count same rule axis below ne =
    let standard = standard_strides order shape in
    let k = length shape - 1 - axis in
    let len = get_or-from_back shape axis 0 below in
    let stride : get_or (reverse strides) k (pos 0) ≡ get_or strides axis (pos 0) =
    ap (λ n. get_or (reverse strides) (n - 1 - axis) (pos 0)) count ∙ get_or-from_back strides axis (pos 0) (omega arith) in
    let own : get_or (reverse standard) k 0 ≡ get_or standard axis 0 =
    ap (λ n. get_or (reverse standard) (n - 1 - axis) 0) (sym (standard_count order shape))
    ∙ get_or-from_back standard axis 0 (omega (arith, standard_count order shape)) in
    sym stride
    ∙ rule k (omega (arith, length-reverse shape)) (λ e. ne (sym len ∙ e))
    ∙ ap (λ xs. pos (get_or xs k 0)) same
    ∙ ap pos own

-- so the rule of the one order is that of the other
pub rule_back : (lens strides : List ℕ) → length lens ≡ length strides
    → SatisfiesOrderRule ColumnMajor (reverse lens) (all_signed (reverse strides)) ↔ SatisfiesOrderRule RowMajor lens (all_signed strides)
rule_back lens strides count =
    let read = all_signed strides in
    let back : all_signed (reverse strides) ≡ reverse read = map-reverse signed strides in
    let counts : length lens ≡ length read = count ∙ sym (length-map strides signed) in
    let turned_counts = length-reverse lens ∙ counts ∙ sym (length-reverse read) in
    let columns : fortran_strides (reverse lens) ≡ reverse (default_strides lens) =
    sym (ap reverse (default_by_fortran lens) ∙ reverse-reverse (fortran_strides (reverse lens))) in
    let rows : default_strides (reverse (reverse lens)) ≡ reverse (fortran_strides (reverse lens)) =
    ap default_strides (reverse-reverse lens) ∙ default_by_fortran lens in (
      elim [
        | inl none ↦ inl (sym (is_empty-reverse lens) ∙ none)
        | inr rule ↦ inr (turned_standard RowMajor ColumnMajor lens read counts columns
            (subst (HasStandardStrides ColumnMajor (reverse lens)) back rule))
      ],
      elim [
        | inl none ↦ inl (is_empty-reverse lens ∙ none)
        | inr rule ↦
            let twice = subst (λ s. HasStandardStrides RowMajor s (reverse (reverse read))) (sym (reverse-reverse lens))
            (subst (HasStandardStrides RowMajor lens) (sym (reverse-reverse read)) rule) in
            inr (subst (HasStandardStrides ColumnMajor (reverse lens)) (sym back)
            (turned_standard ColumnMajor RowMajor (reverse lens) (reverse read) turned_counts rows twice))
      ],
    )
