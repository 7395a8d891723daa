use Rattle.std.proofs.Common.{rules, ◌≡◌, ◌<◌, ◌≤◌, ◌+◌, ℕ, List, false, length, get_or, take, pos, to_z, of_z, w64, inl, inr}
use Rattle.std.proofs.Common.{arith, sym, ap, ap₂, ◌∙◌, below_more}
use Rattle.std.specs.List.{sum_by}
use Rattle.std.specs.List.Sorted.{IsPermutation}
use Rattle.std.specs.Prelude.{unsigned_abs, FitsSigned, nat_le}
use Rattle.std.proofs.lemmas.Bool.{cases_Bool, leb-true, not_from_true, not_from_false}
use Rattle.std.proofs.lemmas.Int.{to_z-of_z}
use Rattle.std.proofs.lemmas.List.{length-map}
use Rattle.std.proofs.lemmas.List.Sorted.{IsPermutation-refl}
use Rattle.std.proofs.lemmas.List.Sums.{sum_by_more}
use Rattle.nd_base.proofs.Laws.Below.{get_or-below, length-below}
use Rattle.nd_base.proofs.Laws.Definitions.{below, all_signed, signed, reach, span}
use Rattle.nd_dim.specs.StrideOrder.{magnitude_at}
use Rattle.nd_shape.specs.NoAlias.{satisfies_no_alias_rule}
use Rattle.nd_shape.specs.NoAliasPass.{reach_at}
use Rattle.nd_shape.proofs.NoAliasTest.{signed_at}
use Rattle.nd_shape.proofs.Laws.NoAlias.{rule_tested}
use Rattle.nd_shape.proofs.Laws.NoAliasPass.{PassHolds, pass_stops, passed_le_span, reaches, reaches_nowhere, rule_from_pass}
use Rattle.nd_shape.proofs.no_alias.overlap_in_one_pass.Given.{Over}
use Rattle.nd_shape.proofs.no_alias.overlap_in_one_pass.Goals as goal
use Rattle.nd_shape.proofs.no_alias.overlap_in_one_pass.Goals.{After-unsigned_abs-magnitude, then-len-gt1+else-magnitude-reached}
use Rattle.nd_shape.proofs.no_alias.overlap_in_one_pass.Goals.{else-len-gt1}

-- the pass has each axis once
each_once : (shape strides : List ℕ) → length shape ≡ length strides
    → IsPermutation (below (length (all_signed strides))) (below (length shape))
each_once shape strides count =
    let same = length-map strides signed ∙ sym count in
    rw same (IsPermutation-refl (below (length shape)))

signed_count : (shape strides : List ℕ) → length shape ≡ length strides → length shape ≡ length (all_signed strides)
signed_count shape strides count = count ∙ sym (length-map strides signed)

-- what is reached before an axis and its own reach are within the span
passed_within : (shape strides : List ℕ) (position : ℕ) → length shape ≡ length strides → position < length shape
    → sum_by (reach_at shape (all_signed strides)) (take position (below (length shape)))
    + reach_at shape (all_signed strides) (get_or (below (length shape)) position 0) ≤ span shape (all_signed strides)
passed_within shape strides position count h =
    passed_le_span shape (all_signed strides) (below (length shape)) position (signed_count shape strides count)
    (each_once shape strides count) (omega (arith, length-below (length shape)))

-- the axis that a turn comes to
abbrev axis_at : List ℕ → ℕ → ℕ
axis_at shape position = get_or (below (length shape)) position 0

-- its length
len_is : (g : Over) (c : After-unsigned_abs-magnitude g)
    → get_or (g.S.Sequence.items c.args.shape.now) (axis_at (g.S.Sequence.items c.args.shape.now) c.loop-position.position) 0
    ≡ c.item-len.result
len_is g c =
    let shape = g.S.Sequence.items c.args.shape.now in
    ap (λ k. get_or shape k 0) (get_or-below (length shape) c.loop-position.position 0 (omega arith)) ∙ sym c.item-len.ensures

-- its stride
stride_is : (g : Over) (c : After-unsigned_abs-magnitude g)
    → to_z w64 (of_z w64 c.signed-stride.result)
    ≡ get_or (all_signed (g.S.Sequence.items c.args.strides.now))
    (axis_at (g.S.Sequence.items c.args.shape.now) c.loop-position.position) (pos 0)
stride_is g c =
    let strides = g.S.Sequence.items c.args.strides.now in
    let position = c.loop-position.position in
    let fits : FitsSigned w64 c.signed-stride.result = search rules in
    let count = c.requires.same_count in
    let axis = get_or-below (length (g.S.Sequence.items c.args.shape.now)) position 0 (omega arith) in
    to_z-of_z w64 c.signed-stride.result fits
    ∙ c.signed-stride.ensures.same_bits
    ∙ ap signed c.item.ensures
    ∙ sym (signed_at strides position (omega arith))
    ∙ ap (λ k. get_or (all_signed strides) k (pos 0)) (sym axis)

magnitude_is : (g : Over) (c : After-unsigned_abs-magnitude g)
    → c.unsigned_abs-magnitude.result ≡ magnitude_at (all_signed (g.S.Sequence.items c.args.strides.now))
    (axis_at (g.S.Sequence.items c.args.shape.now) c.loop-position.position)
magnitude_is g c = c.unsigned_abs-magnitude.ensures.value ∙ ap unsigned_abs (stride_is g c)

pub returns-then-magnitude-reached : goal.returns-then-magnitude-reached
returns-then-magnitude-reached g c =
    let at = (goal.at.returns-then-magnitude-reached g c).After-unsigned_abs-magnitude in
    let shape = g.S.Sequence.items c.args.shape.now in
    let read = g.S.Sequence.items c.args.strides.now in
    let strides = all_signed read in
    let order = below (length shape) in
    let m = c.unsigned_abs-magnitude.result in
    let count = signed_count shape read c.requires.same_count in
    let own = magnitude_is g at in
    elim (cases_Bool (nat_le c.loop-position.longest m)) [
      | inl far ↦
          let broken : satisfies_no_alias_rule shape strides ≡ false =
          pass_stops shape strides order c.loop-position.position count
          (each_once shape read c.requires.same_count)
          (omega (arith, length-below (length shape)))
          (rw (len_is g at) c.if-len-gt1.true) (omega (arith, own, c.if-magnitude-reached.true, c.loop-position.invariant.reached))
          (λ k before long. let earlier = c.loop-position.invariant.pass k before long in
          omega (arith, own, earlier, leb-true c.loop-position.longest m far)) in
          rw (c.then_some.ensures, far) (sym (not_from_false (satisfies_no_alias_rule shape strides) broken))
      | inr near ↦ rw (c.then_some.ensures, near) tt
    ]

pub reach-reached-requires : goal.reach-reached-requires
reach-reached-requires g c =
    let at = (goal.at.reach-reached-requires g c).After-unsigned_abs-magnitude in
    let shape = g.S.Sequence.items c.args.shape.now in
    let read = g.S.Sequence.items c.args.strides.now in
    let within = passed_within shape read c.loop-position.position c.requires.same_count (omega arith) in
    rw (sym (len_is g at), stride_is g at) (omega (arith, within))

pub overflow_add-reached : goal.overflow_add-reached
overflow_add-reached g c =
    let at = (goal.at.overflow_add-reached g c).After-unsigned_abs-magnitude in
    let shape = g.S.Sequence.items c.args.shape.now in
    let read = g.S.Sequence.items c.args.strides.now in
    let order = below (length shape) in
    let within = passed_within shape read c.loop-position.position c.requires.same_count (omega arith) in
    let own : c.reach-reached.result ≡ reach_at shape (all_signed read) (get_or order c.loop-position.position 0) =
    c.reach-reached.ensures ∙ ap₂ reach (sym (len_is g at)) (stride_is g at) in
    omega (arith, own, within, c.loop-position.invariant.reached)

pub loop-position-preserved : goal.loop-position-preserved
loop-position-preserved g c =
    let at = (goal.at.loop-position-preserved g c).After-unsigned_abs-magnitude in
    let shape = g.S.Sequence.items c.args.shape.now in
    let strides = all_signed (g.S.Sequence.items c.args.strides.now) in
    let order = below (length shape) in
    let position = c.loop-position.position in
    let len = len_is g at in
    let known = c.loop-position.invariant in
    let more = sum_by_more (reach_at shape strides) order position 0 (omega (arith, length-below (length shape))) in
    elim c.if-len-gt1.branch [
      | then-len-gt1+else-magnitude-reached w ↦
          let own = magnitude_is g at in
          let far : w.reach-reached.result ≡ reach_at shape strides (get_or order position 0) =
          w.reach-reached.ensures ∙ ap₂ reach (sym len) (stride_is g at) in
          let past = reaches (get_or shape (get_or order position 0) 0) (get_or strides (get_or order position 0) (pos 0))
          (rw len w.if-len-gt1.true) in
          record {
            reached = omega (arith, w.reached-is, far, more, known.reached);
            longest = omega (arith, w.reached-is, w.longest-is, far, own, past);
            pass = below_more _ _
                (λ k before long. let earlier = known.pass k before long in
                (earlier.0, omega (arith, earlier, w.longest-is, known.longest, w.if-magnitude-reached.false)))
                (λ long. (omega (arith, own, known.reached, w.if-magnitude-reached.false), omega (arith, own, w.longest-is)));
          }
      | else-len-gt1 w ↦
          let nowhere = reaches_nowhere (get_or shape (get_or order position 0) 0) (get_or strides (get_or order position 0) (pos 0))
          (rw len w.if-len-gt1.false) in
          record {
            reached = omega (arith, w.reached-is, nowhere, more, known.reached);
            longest = omega (arith, w.reached-is, w.longest-is, known.longest);
            pass = below_more _ _
                (λ k before long. let earlier = known.pass k before long in (earlier.0, omega (arith, earlier, w.longest-is)))
                (λ long. let short = w.if-len-gt1.false in absurd (omega (arith, rw len at long, short)));
          }
    ]

pub returns : goal.returns
returns g c =
    let shape = g.S.Sequence.items c.args.shape.now in
    let read = g.S.Sequence.items c.args.strides.now in
    let order = below (length shape) in
    let count = signed_count shape read c.requires.same_count in
    let through : PassHolds 0 shape (all_signed read) order = λ position l long. let past =
    c.loop-position.invariant.pass position (omega (arith, length-below (length shape))) long in
    omega (arith, past) in
    let rule = rule_from_pass shape (all_signed read) order count (each_once shape read c.requires.same_count) through in
    sym (not_from_true (satisfies_no_alias_rule shape (all_signed read)) (rule_tested shape (all_signed read) rule))
