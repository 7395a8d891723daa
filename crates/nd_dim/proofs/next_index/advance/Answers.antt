use Rattle.std.proofs.Common.{ℕ, ◌+◌, length, set, arith, length-set, refl, set-set, sym, ap, subst, ◌∙◌}
use Rattle.nd_base.proofs.Laws.IsIndex.{length_of_index}
use Rattle.nd_dim.proofs.Stepped.{IsCarried, carried_first, carried_coordinate, carried_more, carried_step, carried_end}
use Rattle.nd_dim.proofs.next_index.advance.Goals as goal

pub loop-k-init : goal.loop-k-init
loop-k-init g c =
    let shape = g.S.Sequence.items c.args.shape.now in
    let index = g.I.Sequence.items c.args.index.now in
    record {
      room = length_of_index shape index c.requires;
      carried = carried_first shape index c.requires;
      target = g.met.I.SequenceMut.same_target_now c.args.index.now;
    }

pub overflow_add-next : goal.overflow_add-next
overflow_add-next g c =
    let coordinate = carried_coordinate (omega arith) c.loop-k.invariant.carried in
    omega (arith, coordinate, c.item-next.ensures, c.item-len.ensures, c.item-len.type_inv)

pub returns-then-next-len : goal.returns-then-next-len
returns-then-next-len g c =
    let advance = carried_step (omega arith) c.loop-k.invariant.carried (omega (arith, c.item-next.ensures, c.item-len.ensures)) in
    record {
      more = (λ t. advance.0, λ h. refl);
      next = c.set.ensures.items ∙ ap (λ n. set (g.I.Sequence.items c.loop-k.index) c.loop-k.k (n + 1)) c.item-next.ensures ∙ advance.1;
      target = g.met.I.SequenceMut.same_target_on c.args.index.now c.loop-k.index c.set.new.self c.loop-k.invariant.target
          c.set.ensures.target;
    }

pub loop-k-preserved : goal.loop-k-preserved
loop-k-preserved g c =
    let shape = g.S.Sequence.items c.args.shape.now in
    let index = g.I.Sequence.items c.loop-k.index in
    let k = c.loop-k.k in
    let known = c.loop-k.invariant in
    let made =
    c.set-in-loop-k.ensures.items
    ∙ ap (λ xs. set xs k 0) c.set.ensures.items
    ∙ set-set index k (c.item-next.result + 1) 0 in
    let carried = carried_more (omega arith) known.carried (omega (arith, c.item-next.ensures, c.item-len.ensures)) in
    let target = g.met.I.SequenceMut.same_target_on c.loop-k.index c.set.new.self c.set-in-loop-k.new.self c.set.ensures.target
    c.set-in-loop-k.ensures.target in
    record {
      room = ap length made ∙ length-set {A = ℕ} index k 0 ∙ known.room;
      carried = subst (IsCarried (k + 1) shape (g.I.Sequence.items c.args.index.now)) (sym made) carried;
      target = g.met.I.SequenceMut.same_target_on c.args.index.now c.loop-k.index c.set-in-loop-k.new.self known.target target;
    }

pub returns-clause-more : goal.returns-clause-more
returns-clause-more g c =
    (λ t. absurd (cc), λ h. absurd (omega (arith, (carried_end (omega arith) c.loop-k.invariant.carried).0)))

pub returns-clause-next : goal.returns-clause-next
returns-clause-next g c = (carried_end (omega arith) c.loop-k.invariant.carried).1
