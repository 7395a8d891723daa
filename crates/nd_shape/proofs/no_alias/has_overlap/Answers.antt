use Rattle.std.proofs.Common.{rules, ◌≡◌, ◌⊎◌, ◌↔◌, Bool, List, ℕ, length, sym, ap, ◌∙◌}
use Rattle.std.specs.Prelude.{IsFalse, IsTrue, not, ◌&&◌}
use Rattle.std.proofs.lemmas.List.{length-map}
use Rattle.nd_base.proofs.Laws.Definitions.{HasDistinctOffsets, all_signed, signed, is_empty}
use Rattle.nd_dim.specs.StrideOrder.{IsStrideOrder}
use Rattle.nd_shape.specs.NoAlias.{satisfies_no_alias_rule, SatisfiesNoAliasRule}
use Rattle.nd_shape.specs.NoAliasPass.{holds_in_one_pass}
use Rattle.nd_shape.proofs.Laws.DistinctOffsets.{distinct_without_overlap}
use Rattle.nd_shape.proofs.Laws.NoAlias.{no_overlap}
use Rattle.nd_shape.proofs.Laws.NoAliasPass.{pass_decides_rule}
use Rattle.nd_shape.proofs.no_alias.has_overlap.Goals as goal

-- what an answer by the rule says
record IsTold (shape strides : List ℕ) (overlaps : Bool) : Type 0 where
  rule : overlaps ≡ (not (is_empty shape) && not (satisfies_no_alias_rule shape (all_signed strides)))
  apart : IsFalse overlaps ↔ (IsTrue (is_empty shape) ⊎ SatisfiesNoAliasRule shape (all_signed strides))
  distinct : IsFalse overlaps → HasDistinctOffsets shape (all_signed strides)
  pass : (order : List ℕ) → IsStrideOrder (all_signed strides) order
      → overlaps ≡ (not (is_empty shape) && not (holds_in_one_pass shape (all_signed strides) order))

told : (shape strides : List ℕ) (overlaps : Bool) → length shape ≡ length strides
    → overlaps ≡ (not (is_empty shape) && not (satisfies_no_alias_rule shape (all_signed strides))) → IsTold shape strides overlaps
told shape strides overlaps same rule =
    let read = all_signed strides in
    let count = same ∙ sym (length-map strides signed) in
    record {
      rule = rule;
      apart = rw rule (no_overlap shape read);
      distinct = λ none. distinct_without_overlap shape read count (sym rule ∙ none);
      pass = λ order h. rule ∙ ap (λ holds. not (is_empty shape) && not holds) (sym (pass_decides_rule shape read order count h));
    }

pub returns-then-breaks_no_alias_rule : goal.returns-then-breaks_no_alias_rule
returns-then-breaks_no_alias_rule c =
    let all = told c.args.shape.now c.args.strides.now (not c.contains.result) c.requires.same_count (search rules depth 3) in
    record { rule = all.rule; apart = all.apart; distinct = all.distinct; pass = all.pass }

pub returns-else-breaks_no_alias_rule : goal.returns-else-breaks_no_alias_rule
returns-else-breaks_no_alias_rule c =
    let all = told c.args.shape.now c.args.strides.now c.breaks_no_alias_rule.result c.requires.same_count (search rules depth 3) in
    record { rule = all.rule; apart = all.apart; distinct = all.distinct; pass = all.pass }
