-- An axis that goes on in each layout is joined in each.
use Rattle.std.proofs.Common.{◌≡◌, ℕ, ◌+◌, ◌*◌, ◌<◌, length, get_or, refl, sym, subst, arith}
use Rattle.std.proofs.lemmas.Bool.{both_ways}
use Rattle.nd_base.proofs.Laws.Definitions.{signed}
use Rattle.nd_shape.specs.Merge.{IsMergedStride}
use Rattle.nd_shape.proofs.Laws.Merge.{into_short, short_taken, steps_on}
use Rattle.ndarray_layout.specs.JoinedInAll.{AreJoinedBy}
use Rattle.ndarray_layout.proofs.JoinedInAll.{JoinedSoFar, goes_on_from_fit, joined_fits, longer_fits, none_joined, one_more_joined}
use Rattle.ndarray_layout.proofs.JoinedInAll.{step_fits}
use Rattle.ndarray_layout.proofs.strided.joined_layouts.joined_in_each.Given.{Over}
use Rattle.ndarray_layout.proofs.strided.joined_layouts.joined_in_each.Goals as goal
use Rattle.ndarray_layout.proofs.strided.joined_layouts.joined_in_each.Goals.{After-next_axis-axis}
use Rattle.ndarray_layout.proofs.strided.joined_layouts.joined_in_each.Goals.{then-len-gt1+else-lens-axis-gt1, else-len-gt1}
use Rattle.ndarray_layout.proofs.strided.joined_layouts.joined_in_each.Goals.{else-lens-axis-gt1-via-then-lens-axis-gt1+else-not-all_go_on}
use Rattle.ndarray_layout.proofs.strided.joined_layouts.joined_in_each.Goals.{else-lens-axis-gt1-via-else-lens-axis-gt1}

pub loop-count-init : goal.loop-count-init
loop-count-init g c = λ number here.
    none_joined c.args.order c.args.lens (g.L.LayoutStrides.strides c.args.layouts.now number) (get_or c.args.joined.now number 0)

each : (g : Over) (c : After-next_axis-axis g) (number : ℕ) → number < length c.loop-count.joined
    → JoinedSoFar c.args.order c.args.lens (g.L.LayoutStrides.strides c.args.layouts.now number) c.loop-count.count c.loop-count.len
    (get_or c.loop-count.joined number 0) c.next_axis-axis.result
    (get_or (g.L.LayoutStrides.strides c.args.layouts.now number) c.next_axis-axis.result 0)
each g c number here = record {
  valid = c.requires.valid number (omega (arith, here, c.loop-count.auto.joined));
  more = c.loop-count-test.true;
  is = c.loop-count.invariant number here;
  at = c.next_axis-axis.ensures.axis;
  steps = refl;
}

pub all_go_on-requires-clause-small : goal.all_go_on-requires-clause-small
all_go_on-requires-clause-small g c =
    let first : 0 < length c.loop-count.joined = omega (arith, c.requires.some, c.loop-count.auto.joined) in
    joined_fits (each g (goal.at.all_go_on-requires-clause-small g c).After-next_axis-axis 0 first)

pub all_go_on-requires-clause-fits : goal.all_go_on-requires-clause-fits
all_go_on-requires-clause-fits g c =
    let each = each g (goal.at.all_go_on-requires-clause-fits g c).After-next_axis-axis in
    λ number here. step_fits (each number here) (omega (arith, c.if-lens-axis-gt1.true))

pub returns-then-not-all_go_on-clause-longest : goal.returns-then-not-all_go_on-clause-longest
returns-then-not-all_go_on-clause-longest g c =
    let each = each g (goal.at.returns-then-not-all_go_on-clause-longest g c).After-next_axis-axis in
    λ more fits. both_ways c.all_go_on.result c.if-not-all_go_on.true (c.all_go_on.ensures.1 (λ number here.
    goes_on_from_fit (each number here) (omega (arith, c.if-lens-axis-gt1.true)) (omega (arith, c.if-len-gt1.true)) (fits number here)))

pub overflow_mul-len : goal.overflow_mul-len
overflow_mul-len g c =
    let first : 0 < length c.loop-count.joined = omega (arith, c.requires.some, c.loop-count.auto.joined) in
    omega (arith, longer_fits (each g (goal.at.overflow_mul-len g c).After-next_axis-axis 0 first))

pub loop-count-preserved : goal.loop-count-preserved
loop-count-preserved g c =
    let each = each g (goal.at.loop-count-preserved g c).After-next_axis-axis in
    let strides = g.L.LayoutStrides.strides c.args.layouts.now in
    let lens = c.args.lens.now in
    let axis = c.next_axis-axis.result in
    let len = c.loop-count.len in
    let step = λ (number : ℕ). get_or (strides number) axis 0 in
    let stride = λ (number : ℕ). get_or c.loop-count.joined number 0 in
    elim c.if-len-gt1.branch [
      | then-len-gt1+else-lens-axis-gt1 w ↦
          let serves : (number : ℕ) → number < length c.loop-count.joined
          → IsMergedStride (get_or lens axis 0) (signed (step number)) len (signed (stride number)) (signed (stride number)) =
          λ number here. elim w.else-lens-axis-gt1.branch [
            | else-lens-axis-gt1-via-then-lens-axis-gt1+else-not-all_go_on u ↦
                steps_on (get_or lens axis 0) (signed (step number)) len (signed (stride number))
                (u.all_go_on.ensures.0 u.if-not-all_go_on.false number here)
            | else-lens-axis-gt1-via-else-lens-axis-gt1 u ↦
                short_taken (get_or lens axis 0) (signed (step number)) len (signed (stride number))
                (omega (arith, u.if-lens-axis-gt1.false))
          ] in
          subst (AreJoinedBy c.args.order lens strides (c.loop-count.count + 1) (len * get_or lens axis 0)) (sym w.joined-is)
          (λ number here. one_more_joined (each number here) (stride number) (serves number here))
      | else-len-gt1 w ↦
          let begun = w.begin_along.new.joined in
          subst (AreJoinedBy c.args.order lens strides (c.loop-count.count + 1) (len * get_or lens axis 0)) (sym w.joined-is)
          (λ number here.
          let there : number < length c.loop-count.joined = omega (arith, here, w.begin_along.ensures.len) in
          let is : get_or begun number 0 ≡ step number = w.begin_along.ensures.strides number there in
          one_more_joined (each number there) (get_or begun number 0)
          (subst (λ joined. IsMergedStride (get_or lens axis 0) (signed (step number)) len (signed (stride number)) (signed joined))
          (sym is)
          (into_short (get_or lens axis 0) (signed (step number)) len (signed (stride number)) (omega (arith, w.if-len-gt1.false)))))
    ]
