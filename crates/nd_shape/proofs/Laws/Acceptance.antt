-- Laws of accepted layouts.
use Rattle.std.proofs.Common.{◌≡◌, ℕ, ℤ, false, List, length, None, arith, sym, ◌∙◌}
use Rattle.std.specs.Prelude.{nat_le, not, ◌&&◌}
use Rattle.std.proofs.lemmas.Bool.{cond-false, leb-false}
use Rattle.std.proofs.lemmas.Grind.{common_steps}
use Rattle.nd_base.proofs.Laws.Definitions.{HasDistinctOffsets, LiesInBounds, is_empty, low_span, span, IsValidLayout}
use Rattle.nd_shape.specs.Acceptance.{size_fault, acceptance, leaves_data}
use Rattle.nd_shape.specs.NoAlias.{satisfies_no_alias_rule}
use Rattle.nd_shape.specs.declared.acceptance.CanIndexCheckMode.{CanIndexCheckMode}
use Rattle.nd_shape.specs.declared.acceptance.CanIndexCheckMode.TheVariants.{OwnedMutable}
use Rattle.nd_base.proofs.Laws.IsIndex.{nonempty_from_index}
use Rattle.nd_shape.proofs.Laws.DistinctOffsets.{distinct_without_overlap}
use Rattle.nd_base.proofs.Laws.Bounds.{lies_in_bounds_from_span}

-- where sizes and reach have no fault, every sum on the layout fits
pub sized_valid : (elem_size : ℕ) (shape : List ℕ) (strides : List ℤ) → size_fault elem_size shape strides ≡ None
    → IsValidLayout shape strides
sized_valid elem_size shape strides h = record {
  same_count = grind (arith, common_steps);
  size_fits = grind (arith, common_steps);
  span_fits = grind (arith, common_steps);
}

module _ (elem_size len : ℕ) (mode : CanIndexCheckMode) (shape : List ℕ) (strides : List ℤ)
    (h : acceptance elem_size len mode shape strides ≡ None) where
  -- an accepted layout does not leave the data
  pub accepted_stays : leaves_data len shape strides ≡ false
  accepted_stays = grind (arith, common_steps)

  -- it has a stride for each length
  pub accepted_count : length shape ≡ length strides
  accepted_count = grind (arith, common_steps)

  -- and every sum on it fits
  pub accepted_valid : IsValidLayout shape strides
  accepted_valid = record {
    same_count = accepted_count;
    size_fits = grind (arith, common_steps);
    span_fits = grind (arith, common_steps);
  }

  -- and each of its indices lies within the data
  pub accepted_lies_in_bounds : LiesInBounds len (low_span shape strides) shape strides
  accepted_lies_in_bounds index here =
      let stays = accepted_stays in
      let some = nonempty_from_index shape index here in
      let test : leaves_data len shape strides ≡ nat_le len (span shape strides) =
      cond-false _ _ _ some in
      lies_in_bounds_from_span len shape strides (leb-false len (span shape strides) (sym test ∙ stays)) accepted_count index here

module _ (elem_size len : ℕ) (shape : List ℕ) (strides : List ℤ) (h : acceptance elem_size len OwnedMutable shape strides ≡ None) where
  -- a layout accepted to be written does not fail the test for a shared element
  accepted_apart : (not (is_empty shape) && not (satisfies_no_alias_rule shape strides)) ≡ false
  accepted_apart = grind (arith, common_steps)

  -- of a layout accepted to be written, every two indices have offsets of their own
  pub accepted_distinct : HasDistinctOffsets shape strides
  accepted_distinct =
      distinct_without_overlap shape strides (accepted_count elem_size len OwnedMutable shape strides h) accepted_apart
