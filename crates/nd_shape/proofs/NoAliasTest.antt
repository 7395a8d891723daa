-- How the code's tests of axes come to the words of the no-alias rule.
use Rattle.std.proofs.Common.{◌≡◌, ℕ, ◌<◌, ℤ, pos, List, length, get_or, reverse, Decides, sym, subst, arith}
use Rattle.std.specs.Prelude.{nat_le, not}
use Rattle.std.proofs.lemmas.Bool.Decides.{nat_tests, same_from_decides}
use Rattle.std.proofs.lemmas.List.{get_or-map, reverse-reverse}
use Rattle.nd_base.proofs.Laws.Definitions.{all_signed, signed}
use Rattle.nd_dim.specs.StrideOrder.{magnitude_at}
use Rattle.nd_shape.specs.NoAlias.{span_of_others, strides_over_others, satisfies_no_alias_rule, SatisfiesNoAliasRule}
use Rattle.nd_shape.proofs.Laws.NoAlias.{counts_back, rule_from_back, rule_holds, rule_tested}

-- the stride of an axis, read as signed
pub signed_at : (strides : List ℕ) (k : ℕ) → k < length strides → get_or (all_signed strides) k (pos 0) ≡ signed (get_or strides k 0)
signed_at strides k h = get_or-map signed strides k 0 (pos 0) h

-- an axis longer than 1 is tested by its stride
pub long_axis : (shape : List ℕ) (strides : List ℤ) (axis : ℕ) → 1 < get_or shape axis 0
    → not (strides_over_others shape strides axis) ≡ nat_le (magnitude_at strides axis) (span_of_others shape strides axis)
long_axis shape strides axis h = grind (arith, nat_tests)

-- ---- axes that are read from the back
-- they follow the rule where the axes do
pub no_alias_rule-reverse : (shape : List ℕ) (strides : List ℤ) → length shape ≡ length strides
    → satisfies_no_alias_rule (reverse shape) (reverse strides) ≡ satisfies_no_alias_rule shape strides
no_alias_rule-reverse shape strides count =
    let counts = counts_back shape strides count in
    let Rule = SatisfiesNoAliasRule shape strides in
    let twice : Rule → SatisfiesNoAliasRule (reverse (reverse shape)) (reverse (reverse strides)) =
    λ rule. subst (λ s. SatisfiesNoAliasRule s (reverse (reverse strides))) (sym (reverse-reverse shape))
    (subst (SatisfiesNoAliasRule shape) (sym (reverse-reverse strides)) rule) in
    let there : Decides (satisfies_no_alias_rule (reverse shape) (reverse strides)) Rule = (
      λ t. rule_from_back shape strides count (rule_holds (reverse shape) (reverse strides) t),
      λ rule. rule_tested (reverse shape) (reverse strides) (rule_from_back (reverse shape) (reverse strides) counts (twice rule)),
    ) in
    let here : Decides (satisfies_no_alias_rule shape strides) Rule = (rule_holds shape strides, rule_tested shape strides) in
    same_from_decides (satisfies_no_alias_rule (reverse shape) (reverse strides)) (satisfies_no_alias_rule shape strides) there here
