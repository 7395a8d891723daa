use Rattle.std.proofs.Common.{◌≡◌, ℕ, ◌+◌, ◌≤◌, get_or, inl, inr, arith, ap}
use Rattle.std.proofs.lemmas.Bool.{cases_lt}
use Rattle.std.proofs.lemmas.List.{length-map}
use Rattle.nd_base.proofs.Laws.Definitions.{all_signed, signed, reach, span}
use Rattle.nd_base.proofs.Laws.Span.{sum_from, sum_from_step, sum_from_end, sum_le, sum_and_others, reach_le_span}
use Rattle.nd_shape.specs.NoAlias.{span_up_to}
use Rattle.nd_shape.proofs.NoAliasTest.{signed_at}
use Rattle.nd_shape.proofs.Laws.NoAlias.{reach_up_to, reach_up_to_le}
use Rattle.nd_shape.proofs.no_alias.span_of_others.Goals as goal
use Rattle.nd_shape.proofs.no_alias.span_of_others.Goals.{In-loop-other, then-other-axis, else-other-axis}

-- the reach of this axis, and that of those after it
step : (c : In-loop-other) → sum_from (reach_up_to c.args.magnitude) c.args.shape.now c.args.strides.now c.loop-other.other
    ≡ reach_up_to c.args.magnitude (get_or c.args.shape.now c.loop-other.other 0) (signed (get_or c.args.strides.now c.loop-other.other 0))
    + sum_from (reach_up_to c.args.magnitude) c.args.shape.now c.args.strides.now (c.loop-other.other + 1)
step c = sum_from_step (reach_up_to c.args.magnitude) c.args.shape.now c.args.strides.now c.loop-other.other
    (omega (arith, c.loop-other-test.true)) (omega (arith, c.loop-other-test.true, c.requires.same_count))

-- all axes reach no farther than the limit
whole_fits : (c : In-loop-other) → span_up_to c.args.magnitude c.args.shape.now (all_signed c.args.strides.now)
    ≤ span c.args.shape.now (all_signed c.args.strides.now)
whole_fits c =
    sum_le (reach_up_to c.args.magnitude) reach (reach_up_to_le c.args.magnitude) c.args.shape.now (all_signed c.args.strides.now)

pub reach_up_to-far-requires : goal.reach_up_to-far-requires
reach_up_to-far-requires c =
    let strides = c.args.strides.now in
    let read = signed_at strides c.loop-other.other (omega (arith, c.loop-other-test.true, c.requires.same_count)) in
    let count = length-map strides signed in
    let own = reach_le_span c.args.shape.now (all_signed strides) c.loop-other.other c.loop-other-test.true
    (omega (arith, count, c.requires.same_count)) in
    omega (arith, rw read at own, c.requires.span_fits)

pub overflow_add-total : goal.overflow_add-total
overflow_add-total c =
    let at = (goal.at.overflow_add-total c).In-loop-other in
    let next = step at in
    let whole = whole_fits at in
    elim c.if-other-axis.branch [
      | then-other-axis w ↦ omega (arith, w.total-is, c.loop-other.auto.total-fits)
      | else-other-axis w ↦ elim (cases_lt c.args.axis c.loop-other.other) [
        | inl l ↦ omega (arith, w.total-is, c.reach_up_to-far.ensures, next, whole, c.loop-other.invariant.after l, c.requires.span_fits)
        | inr l ↦ omega (arith, w.total-is, c.reach_up_to-far.ensures, next, whole, c.loop-other.invariant.before l, c.requires.span_fits)
      ]
    ]

pub loop-other-preserved : goal.loop-other-preserved
loop-other-preserved c =
    let at = (goal.at.loop-other-preserved c).In-loop-other in
    let next = step at in
    let reach_at : ℕ → ℕ = λ k. reach_up_to c.args.magnitude (get_or c.args.shape.now k 0) (signed (get_or c.args.strides.now k 0)) in
    elim c.if-other-axis.branch [
      | then-other-axis w ↦
          let own : reach_at c.loop-other.other ≡ reach_at c.args.axis = ap reach_at w.if-other-axis.true in
          record {
            before = λ l. absurd (omega (arith, l, w.if-other-axis.true));
            after = λ l. omega (
              arith,
              w.total-is,
              own,
              next,
              c.loop-other.invariant.before (omega (arith, w.if-other-axis.true)),
            );
          }
      | else-other-axis w ↦
          record {
            before = λ l. omega (arith, w.total-is, c.reach_up_to-far.ensures, next, c.loop-other.invariant.before (omega (arith, l)));
            after = λ l. omega (
              arith,
              w.total-is,
              c.reach_up_to-far.ensures,
              next,
              c.loop-other.invariant.after (omega (arith, l, w.if-other-axis.false)),
            );
          }
    ]

pub returns : goal.returns
returns c =
    let shape = c.args.shape.now in
    let strides = c.args.strides.now in
    let f = reach_up_to c.args.magnitude in
    let count = length-map strides signed in
    let end = sum_from_end f shape strides c.loop-other.other (omega (arith, c.loop-other-test.false)) in
    let read = signed_at strides c.args.axis (omega (arith, c.requires.axis, c.requires.same_count)) in
    let split = sum_and_others f shape (all_signed strides) c.args.axis c.requires.axis (omega (arith, count, c.requires.same_count)) in
    let all = c.loop-other.invariant.after (omega (arith, c.requires.axis, c.loop-other-test.false)) in
    omega (arith, end, rw read at split, all)
