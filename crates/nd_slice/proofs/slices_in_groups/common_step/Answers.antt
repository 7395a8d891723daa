-- One more slice leaves one remainder by its own step, or by any number.
use Rattle.std.proofs.Common.{◌≡◌, ◌⊎◌, ℕ, inl, inr, take, get_or, sym, subst, ◌∙◌, arith}
use Rattle.std.specs.List.{All}
use Rattle.std.proofs.lemmas.Bool.{cases_lt}
use Rattle.std.proofs.lemmas.List.{take_all, take_more}
use Rattle.std.proofs.lemmas.List.Elements.{All-push, All-weaker}
use Rattle.nd_slice.specs.RangesApart.{HasRemainderOn}
use Rattle.nd_slice.specs.declared.slices_in_groups.Grouped.{Grouped}
use Rattle.nd_slice.proofs.SlicesInGroups.{nothing}
use Rattle.nd_slice.proofs.slices_in_groups.common_step.Goals as goal
use Rattle.nd_slice.proofs.slices_in_groups.common_step.Goals.{then-common-eq0, else-common-eq0+else-step-ne0}
use Rattle.nd_slice.proofs.slices_in_groups.common_step.Goals.{else-step-ne0-via-then-step-ne0+else-step-common}
use Rattle.nd_slice.proofs.slices_in_groups.common_step.Goals.{else-step-ne0-via-else-step-ne0}

pub loop-item-preserved : goal.loop-item-preserved
loop-item-preserved c =
    let items = c.args.items.now in
    let i = c.loop-item.item-index in
    let has = λ (by : ℕ) (item : Grouped). HasRemainderOn by c.args.fit c.args.shape.now c.args.axis item.elems.now in
    let So = λ (common : ℕ) (item : Grouped). (by : ℕ) → (common ≡ 0) ⊎ (common ≡ by) → has by item in
    let one = get_or items i nothing in
    let before = take i items in
    subst (All (So c.if-common-eq0.common)) (sym (take_more items i nothing c.loop-item-test.true))
    (elim c.if-common-eq0.branch [
      | then-common-eq0 w ↦ All-push (So c.if-common-eq0.common) before one
          (All-weaker (So c.loop-item.common) (So c.if-common-eq0.common) (λ item known by which. known by (inl w.if-common-eq0.true))
          before c.loop-item.invariant)
          (λ by which. c.step_on-step.ensures by (subst (λ n. (n ≡ 0) ⊎ (n ≡ by)) w.common-is which))
      | else-common-eq0+else-step-ne0 w ↦ All-push (So c.if-common-eq0.common) before one
          (subst (λ n. All (So n) before) (sym w.common-is) c.loop-item.invariant)
          (λ by which. c.step_on-step.ensures by (elim w.else-step-ne0.branch [
            | else-step-ne0-via-then-step-ne0+else-step-common v ↦
                elim (subst (λ n. (n ≡ 0) ⊎ (n ≡ by)) w.common-is which) [
                  | inl none ↦ absurd (w.if-common-eq0.false none)
                  | inr is ↦ inr (v.if-step-common.false ∙ is)
                ]
            | else-step-ne0-via-else-step-ne0 v ↦ inl v.if-step-ne0.false
          ]))
    ])

pub returns-clause-remainders : goal.returns-clause-remainders
returns-clause-remainders c =
    let items = c.args.items.now in
    let has = λ (by : ℕ) (item : Grouped). HasRemainderOn by c.args.fit c.args.shape.now c.args.axis item.elems.now in
    let common = c.loop-item.common in
    let all = take_all c.loop-item.item-index items (omega (arith, c.loop-item-test.false)) in
    let which : (common ≡ 0) ⊎ (common ≡ c.max.result) = elim (cases_lt 0 common) [
      | inl some ↦ inr (omega (arith, some, c.max.ensures))
      | inr none ↦ inl (omega (arith, none))
    ] in
    All-weaker (λ item. (by : ℕ) → (common ≡ 0) ⊎ (common ≡ by) → has by item) (has c.max.result) (λ item known. known c.max.result which)
    items (subst (All (λ item. (by : ℕ) → (common ≡ 0) ⊎ (common ≡ by) → has by item)) all c.loop-item.invariant)
