use Rattle.std.proofs.Common.{◌∙◌, ◌||◌, take, get_or, inl, inr, sym, ap, ap₂, arith}
use Rattle.std.proofs.lemmas.Bool.{cases_Bool, ne_eqb}
use Rattle.std.proofs.lemmas.List.{take_all, take_more}
use Rattle.nd_base.proofs.Laws.Definitions.{is_empty}
use Rattle.nd_base.proofs.Laws.Size.{is_empty-push, length_pos}
use Rattle.nd_dim.proofs.strides.has_zero.Goals as goal

pub returns-then-item-eq0 : goal.returns-then-item-eq0
returns-then-item-eq0 g c =
    let lens = g.S.Sequence.items c.args.lens.now in
    elim (cases_Bool (is_empty lens)) [
      | inl none ↦ sym none
      | inr some ↦ absurd (omega (arith, length_pos lens c.loop-k.k some (omega arith), c.item.ensures, c.if-item-eq0.true))
    ]

pub loop-k-preserved : goal.loop-k-preserved
loop-k-preserved g c =
    let lens = g.S.Sequence.items c.args.lens.now in
    let k = c.loop-k.k in
    ap is_empty (take_more lens k 0 (omega arith))
    ∙ is_empty-push (take k lens) (get_or lens k 0)
    ∙ ap₂ (λ a b. a || b) (ne_eqb (get_or lens k 0) 0 (λ e. c.if-item-eq0.false (c.item.ensures ∙ e))) c.loop-k.invariant

pub returns : goal.returns
returns g c =
    let lens = g.S.Sequence.items c.args.lens.now in
    sym (ap is_empty (sym (take_all c.loop-k.k lens (omega arith))) ∙ c.loop-k.invariant)
