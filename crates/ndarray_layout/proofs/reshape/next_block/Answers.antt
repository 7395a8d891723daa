use Rattle.std.proofs.Common.{ℕ, ◌+◌, ◌*◌, ◌<◌, ap, arith, length, subst, sym, ◌∙◌, Some}
use Rattle.std.proofs.lemmas.Bool.{both_ways}
use Rattle.std.proofs.lemmas.List.{drop_all}
use Rattle.nd_base.proofs.Laws.AsRead.{length-as_read}
use Rattle.nd_base.proofs.Laws.Definitions.{all_signed, as_read, signed}
use Rattle.ndarray_layout.specs.private.ReshapeProgress.{left_at, left_in}
use Rattle.ndarray_layout.proofs.matching.Merged.{IsJoined, apart-fault, from-end-fault, joined-block, joined-first, joined-new, joined-old}
use Rattle.ndarray_layout.proofs.matching.Merged.{joined-one, new-product-fits, next-stride, old-product-fits, to-end-fault}
use Rattle.ndarray_layout.proofs.reshape.next_block.Goals as goal
use Rattle.ndarray_layout.proofs.reshape.next_block.Goals.{then-next_len-gt1+else-not-is_multiple, else-next_len-gt1}

pub loop-len-init : goal.loop-len-init
loop-len-init c =
    let within = c.requires.to_left in
    record {
      from_ahead = omega arith;
      to_ahead = omega arith;
      to_in = omega arith;
      joined = joined-first c.requires.heads c.item-len.ensures (ap all_signed c.item-stride.ensures) c.item-new_len.ensures;
    }

-- ---- the new shape has fewer indices so far
pub returns-then-end-both-clause-fault : goal.returns-then-end-both-clause-fault
returns-then-end-both-clause-fault c =
    let order = c.args.both.now.order in
    to-end-fault c.loop-len.invariant.joined c.if-len-new_len.true (drop_all c.loop-len.end.to_axes (as_read order c.args.both.now.to.now)
    (omega (arith, c.if-end-both.true, length-as_read order c.args.both.now.to.now)))
    ∙ ap Some (sym c.from_kind.ensures)

pub overflow_mul-new_len : goal.overflow_mul-new_len
overflow_mul-new_len c = omega (arith, new-product-fits c.loop-len.invariant.joined c.item-new_len-then-len-new_len.ensures)

pub loop-len-preserved-then-len-new_len : goal.loop-len-preserved-then-len-new_len
loop-len-preserved-then-len-new_len c =
    let v = c.loop-len.invariant in
    record {
      from_ahead = v.from_ahead;
      to_ahead = omega (arith, v.to_ahead);
      to_in = omega (arith, c.if-end-both.false);
      joined = joined-new v.joined c.item-new_len-then-len-new_len.ensures c.if-len-new_len.true;
    }

-- ---- the old one has
pub returns-then-end-both-2-clause-fault : goal.returns-then-end-both-2-clause-fault
returns-then-end-both-2-clause-fault c =
    let order = c.args.both.now.order in
    let less = c.if-len-new_len.false in
    let other = c.loop-len-test.true in
    from-end-fault c.loop-len.invariant.joined (omega arith) (drop_all c.loop-len.end.from_axes (as_read order c.args.both.now.from.now)
    (omega (arith, c.if-end-both-2.true, length-as_read order c.args.both.now.from.now)))
    ∙ ap Some (sym c.from_kind-then-end-both-2.ensures)

pub is_multiple-requires : goal.is_multiple-requires
is_multiple-requires c =
    omega (arith, (old-product-fits c.loop-len.invariant.joined c.item-next_len.ensures (ap all_signed c.item-next.ensures)).1)

pub returns-then-not-is_multiple-clause-fault : goal.returns-then-not-is_multiple-clause-fault
returns-then-not-is_multiple-clause-fault c =
    let less = c.if-len-new_len.false in
    let other = c.loop-len-test.true in
    apart-fault c.loop-len.invariant.joined c.item-next_len.ensures (ap all_signed c.item-next.ensures) (omega arith) c.if-next_len-gt1.true
    (λ same. both_ways c.is_multiple.result c.if-not-is_multiple.true (c.is_multiple.ensures.1 same))
    ∙ ap Some (sym c.from_kind-then-not-is_multiple.ensures)

pub overflow_mul-len : goal.overflow_mul-len
overflow_mul-len c =
    let strides = as_read c.args.both.now.order c.args.both.now.strides.now in
    let within : c.loop-len.end.from_axes < length strides =
    omega (arith, c.if-end-both-2.false, c.requires.same_count, length-as_read c.args.both.now.order c.args.both.now.strides.now) in
    omega (
      arith,
      (old-product-fits c.loop-len.invariant.joined c.item-next_len.ensures
          (next-stride strides c.loop-len.end.from_axes within)).0,
    )

pub loop-len-preserved : goal.loop-len-preserved
loop-len-preserved c =
    let both = c.args.both.now in
    let strides = as_read both.order both.strides.now in
    let l = c.loop-len in
    let v = l.invariant in
    let less = c.if-len-new_len.false in
    let other = c.loop-len-test.true in
    let within : l.end.from_axes < length strides =
    omega (arith, c.if-end-both-2.false, c.requires.same_count, length-as_read both.order both.strides.now) in
    let next_is = λ (s : ℕ). IsJoined (left_at both c.args.at) (l.len * c.item-next_len.result) (signed s) l.new_len
    (left_in both (l.end.from_axes + 1) l.end.to_axes) in
    record {
      from_ahead = omega (arith, v.from_ahead);
      to_ahead = v.to_ahead;
      to_in = v.to_in;
      joined = elim c.if-next_len-gt1.branch [
        | then-next_len-gt1+else-not-is_multiple w ↦ subst next_is (sym w.stride-is)
            (joined-old v.joined c.item-next_len.ensures (ap all_signed w.item-next.ensures) (omega arith) w.if-next_len-gt1.true
            (w.is_multiple.ensures.0 w.if-not-is_multiple.false))
        | else-next_len-gt1 w ↦ subst next_is (sym w.stride-is)
            (joined-one v.joined c.item-next_len.ensures (next-stride strides l.end.from_axes within) (omega arith) w.if-next_len-gt1.false)
      ];
    }

pub returns-clause-block : goal.returns-clause-block
returns-clause-block c = joined-block c.loop-len.invariant.joined c.loop-len-test.false
