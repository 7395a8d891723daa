use Rattle.std.proofs.Common.{◌≡◌, ℕ, List, [], ◌∷◌, Some, refl, sym, ap, ◌∙◌}
use Rattle.std.specs.Int.{is_negative}
use Rattle.std.specs.List.{list_any}
use Rattle.std.specs.Prelude.{◌||◌}
use Rattle.std.proofs.lemmas.Bool.{cond-true, cond-false}
use Rattle.nd_base.proofs.Laws.Definitions.{all_signed, signed}
use Rattle.nd_shape.proofs.acceptance.strides_non_negative.Goals as goal

-- a test of the strides as they are read is one of them as they are kept
any_signed : (strides : List ℕ) → list_any is_negative (all_signed strides) ≡ list_any (λ stride. is_negative (signed stride)) strides
any_signed [] = refl
any_signed (stride ∷ strides) = ap (λ later. is_negative (signed stride) || later) (any_signed strides)

pub returns-then-some_negative : goal.returns-then-some_negative
returns-then-some_negative g c =
    let strides = g.D.Lengths.list c.args.strides.now in
    let back = any_signed strides ∙ rw c.slice.ensures.list at (sym c.some_negative.ensures ∙ c.if-some_negative.true) in
    ap Some c.from_kind.ensures ∙ sym (cond-true _ _ _ back)

pub returns : goal.returns
returns g c =
    let strides = g.D.Lengths.list c.args.strides.now in
    let none = any_signed strides ∙ rw c.slice.ensures.list at (sym c.some_negative.ensures ∙ c.if-some_negative.false) in
    sym (cond-false _ _ _ none)
