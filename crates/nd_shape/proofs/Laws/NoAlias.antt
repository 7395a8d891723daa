-- Laws of the no-alias rule.
use Rattle.std.proofs.Common.{inl, inr, ◌⊎◌, ◌↔◌, ◌≡◌, ℕ, ◌-◌, ◌<◌, ◌≤◌, ℤ, pos, true, false, List, length, get_or, reverse}
use Rattle.std.proofs.Common.{sym, ap, ap₂, ◌∙◌, arith}
use Rattle.std.specs.Prelude.{if◌then◌else◌, nat_le, not, remove, ◌&&◌}
use Rattle.std.proofs.lemmas.List.{length-reverse}
use Rattle.std.proofs.lemmas.Bool.{and_left, and_right, cases_Bool, cond_both, not_from_true}
use Rattle.std.proofs.lemmas.Bool.{both_ways, false_from_ne_true}
use Rattle.std.proofs.lemmas.Bool.Decides.{nat_tests}
use Rattle.nd_base.proofs.Laws.Below.{all_below, passes_below}
use Rattle.nd_base.proofs.Laws.Definitions.{magnitude, is_empty, reach, sum_over_axes}
use Rattle.nd_dim.specs.StrideOrder.{magnitude_at}
use Rattle.nd_base.proofs.Laws.Lists.{get_or-from_back}
use Rattle.nd_base.proofs.Laws.Span.{sum_and_others, sum_over_axes-reverse}
use Rattle.nd_shape.specs.NoAlias.{span_of_others, span_up_to, strides_over_others, satisfies_no_alias_rule, SatisfiesNoAliasRule}

-- how far an axis reaches, or 0 where its stride is of a magnitude past m
abbrev pub reach_up_to : ℕ → ℕ → ℤ → ℕ
reach_up_to m len stride = (if nat_le (magnitude stride) m then reach len stride else 0)

pub reach_up_to_le : (m len : ℕ) (stride : ℤ) → reach_up_to m len stride ≤ reach len stride
reach_up_to_le m len stride =
    cond_both (nat_le (magnitude stride) m) (reach len stride) 0 (λ x. x ≤ reach len stride) (λ e. omega arith) (λ e. omega arith)

module _ (shape : List ℕ) (strides : List ℤ) where
  -- an axis that does not stride over the others breaks the rule
  pub rule_broken : (axis : ℕ) → axis < length shape → strides_over_others shape strides axis ≡ false
      → satisfies_no_alias_rule shape strides ≡ false
  rule_broken axis h b =
      false_from_ne_true _ (λ holds. both_ways _ b (passes_below (strides_over_others shape strides) (length shape) holds axis h))

  -- where the test passes, the rule holds
  pub rule_holds : satisfies_no_alias_rule shape strides ≡ true → SatisfiesNoAliasRule shape strides
  rule_holds h axis below long =
      let steps = passes_below (strides_over_others shape strides) (length shape) h axis below in
      grind (arith, nat_tests)

  -- the test passes where each axis strides over the others
  pub rule_satisfied : ((axis : ℕ) → axis < length shape → strides_over_others shape strides axis ≡ true)
      → satisfies_no_alias_rule shape strides ≡ true
  rule_satisfied h = all_below (strides_over_others shape strides) (length shape) h

  -- an axis with a stride past what the others reach passes its test
  pub axis_tested : (axis : ℕ) → (1 < get_or shape axis 0 → span_of_others shape strides axis < magnitude_at strides axis)
      → strides_over_others shape strides axis ≡ true
  axis_tested axis h = grind (arith, nat_tests, h)

  -- where the rule holds, the test passes
  pub rule_tested : SatisfiesNoAliasRule shape strides → satisfies_no_alias_rule shape strides ≡ true
  rule_tested h = rule_satisfied (λ axis below. axis_tested axis (h axis below))

-- the test for a shared element, which needs an index and a broken rule, fails exactly where there is no index or the rule holds
pub no_overlap : (shape : List ℕ) (strides : List ℤ)
    → (not (is_empty shape) && not (satisfies_no_alias_rule shape strides)) ≡ false ↔ (is_empty shape ≡ true)
    ⊎ SatisfiesNoAliasRule shape strides
no_overlap shape strides =
    let empty = is_empty shape in
    let holds = satisfies_no_alias_rule shape strides in (
      λ h. elim (cases_Bool empty) [
        | inl none ↦ inl none
        | inr some ↦ inr (rule_holds shape strides (grind (arith, nat_tests)))
      ],
      λ h. elim h [
        | inl none ↦ and_left _ _ (not_from_true empty none)
        | inr rule ↦ and_right _ _ (not_from_true holds (rule_tested shape strides rule))
      ],
    )

-- ---- axes that are read from the back
pub counts_back : (shape : List ℕ) (strides : List ℤ) → length shape ≡ length strides → length (reverse shape) ≡ length (reverse strides)
counts_back shape strides count = length-reverse shape ∙ count ∙ sym (length-reverse strides)

others_back : (shape : List ℕ) (strides : List ℤ) (axis : ℕ) → length shape ≡ length strides → axis < length shape
    → (span_of_others (reverse shape) (reverse strides) (length shape - 1 - axis) ≡ span_of_others shape strides axis)
    × (magnitude_at (reverse strides) (length shape - 1 - axis) ≡ magnitude_at strides axis)
others_back shape strides axis count below =
    let k = length shape - 1 - axis in
    let within : k < length (reverse shape) = omega (arith, length-reverse shape) in
    let counts = counts_back shape strides count in
    let stride : get_or (reverse strides) k (pos 0) ≡ get_or strides axis (pos 0) =
    ap (λ n. get_or (reverse strides) (n - 1 - axis) (pos 0)) count ∙ get_or-from_back strides axis (pos 0) (omega arith) in
    let f = reach_up_to (magnitude_at (reverse strides) k) in
    let own : f (get_or (reverse shape) k 0) (get_or (reverse strides) k (pos 0)) ≡ f (get_or shape axis 0) (get_or strides axis (pos 0)) =
    ap₂ f (get_or-from_back shape axis 0 below) stride in
    let there = sum_and_others f (reverse shape) (reverse strides) k within counts in
    let here = sum_and_others f shape strides axis below count in
    let whole = sum_over_axes-reverse f shape strides count in
    let others : span_of_others (reverse shape) (reverse strides) k ≡ sum_over_axes f (remove shape axis) (remove strides axis) =
    omega (arith, there, here, whole, own) in
    (others ∙ ap (λ z. span_up_to (magnitude z) (remove shape axis) (remove strides axis)) stride, ap magnitude stride)

-- where the axes from the back follow the rule, so do the axes
pub rule_from_back : (shape : List ℕ) (strides : List ℤ) → length shape ≡ length strides
    → SatisfiesNoAliasRule (reverse shape) (reverse strides)
    → SatisfiesNoAliasRule shape strides
rule_from_back shape strides count rule axis below long =
    let same = others_back shape strides axis count below in
    let len = get_or-from_back shape axis 0 below in
    let apart = rule (length shape - 1 - axis) (omega (arith, length-reverse shape)) (omega arith) in
    omega (arith, same.0, same.1, apart)
