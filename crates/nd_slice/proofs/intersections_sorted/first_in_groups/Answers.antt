-- A group ends, or goes on with one more item.
use Rattle.std.proofs.Common.{◌≡◌, ◌≢◌, ◌+◌, ◌<◌, IfNone, None, Some, Option, length, get_or, subst, sym, ◌∙◌, arith}
use Rattle.std.proofs.lemmas.List.{get_or-map}
use Rattle.nd_slice.specs.SlicesInGroups.{group_at}
use Rattle.nd_slice.specs.declared.slices_in_groups.Grouped.{Grouped}
use Rattle.nd_slice.proofs.FirstInGroups.{AreApartWithin, GroupsBefore, apart_up_to, group_ends, group_goes_on}
use Rattle.nd_slice.proofs.SlicesInGroups.{nothing}
use Rattle.nd_slice.proofs.intersections_sorted.first_in_groups.Goals as goal
use Rattle.nd_slice.proofs.intersections_sorted.first_in_groups.Goals.{then-items-to+in_default, else-items-to}

pub loop-to-preserved : goal.loop-to-preserved
loop-to-preserved c =
    let fit = c.args.fit in
    let shape = c.args.shape.now in
    let items = c.args.items.now in
    let from = c.loop-to.from in
    let to = c.loop-to.to in
    let before : from < length items = omega (arith, c.loop-to.invariant.begun, c.loop-to-test.true) in
    let one : group_at items to ≡ (get_or items to nothing).group =
    get_or-map (λ (item : Grouped). item.group) items to nothing 0 c.loop-to-test.true in
    let other : group_at items from ≡ (get_or items from nothing).group =
    get_or-map (λ (item : Grouped). item.group) items from nothing 0 before in
    elim c.if-items-to.branch [
      | then-items-to+in_default w ↦
          let ne : group_at items to ≢ group_at items from = λ e. w.if-items-to.true (sym one ∙ e ∙ other) in
          subst (λ n. GroupsBefore fit shape items n (to + 1)) (sym w.from-is)
          (group_ends fit shape items from to c.requires.in_order c.requires.apart c.loop-to-test.true c.loop-to.invariant
          w.in_default.ensures.none ne)
      | else-items-to w ↦
          subst (λ n. GroupsBefore fit shape items n (to + 1)) (sym w.from-is)
          (group_goes_on fit shape items from to c.loop-to.invariant (one ∙ w.if-items-to.false ∙ sym other))
    ]

if_none : {X : Type 0} (found : Option X) (P Q : Type 0) → (P → Q) → IfNone found P → IfNone found Q
if_none None P Q f h = f h
if_none (Some x) P Q f h = tt

pub returns-clause-none : goal.returns-clause-none
returns-clause-none c =
    let fit = c.args.fit in
    let shape = c.args.shape.now in
    let items = c.args.items.now in
    let from = c.loop-to.from in
    let to = c.loop-to.to in
    if_none c.first_in_group-2.result (AreApartWithin fit shape items from (length items)) _
    (λ group i j before below.
    apart_up_to fit shape items from to c.requires.apart c.loop-to.auto.to-end c.loop-to.invariant
    (λ a b first order last. group a b first order (omega (arith, last, c.loop-to.auto.to-end))) i j (omega arith) before
    (omega (arith, below, c.loop-to-test.false))) c.first_in_group-2.ensures.none
