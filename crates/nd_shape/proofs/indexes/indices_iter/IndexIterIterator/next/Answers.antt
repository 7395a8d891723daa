-- The index that the iterator stands at comes, and it moves on to the next one.
use Rattle.std.proofs.Common.{ℕ, ◌-◌, Bool, cond, List, Some, None, length, ap, sym, subst, ◌∙◌, arith}
use Rattle.nd_shape.specs.IndicesLeft.{StandsAtFirst}
use Rattle.nd_shape.proofs.IndicesIteration.{gives, gives_none, goes_on_to, none_left, stands_at, stands_at_index}
use Rattle.nd_shape.proofs.indexes.indices_iter.IndexIterIterator.next.Goals as goal
use Rattle.nd_shape.proofs.indexes.indices_iter.IndexIterIterator.next.Goals.{then-self, else-self+else-ndim-ne2}

pub returns-then-not-self-clause-steps : goal.returns-then-not-self-clause-steps
returns-then-not-self-clause-steps g c =
    let shape = g.D.Lengths.list c.self.inside.dim in
    let index = Some (g.D.Lengths.list c.self.inside.index) in
    let none = none_left g.O.IterOrder.order shape c.self.inside.left (cond c.self.inside.has_remaining index None) c.self.invariant
    (ap (λ b. cond b index None) c.if-not-self.true) in
    let nothing = gives_none g.O.IterOrder.order shape c.self.inside.left c.args.self.now none c.self.view_is in
    (nothing, nothing)

pub advance-self-inside-requires : goal.advance-self-inside-requires
advance-self-inside-requires g c =
    let shape = g.D.Lengths.list c.self.inside.dim in
    let index = g.D.Lengths.list c.self.inside.index in
    let at = stands_at g.O.IterOrder.order shape index c.self.inside.left _ c.self.invariant c.if-not-self.false in
    rw (c.slice.ensures.list, c.slice_mut.ensures.list) (stands_at_index g.O.IterOrder.order shape index c.self.inside.left at.0 at.1)

pub invariant_of-self-then-self : goal.invariant_of-self-then-self
invariant_of-self-then-self g c =
    let list = g.D.Lengths.list in
    let shape = list c.self.inside.dim in
    let index = list c.self.inside.index in
    let next = c.advance-self-inside.new.index in
    let more = c.advance-self-inside.result in
    let at = stands_at g.O.IterOrder.order shape index c.self.inside.left _ c.self.invariant c.if-not-self.false in
    let there = goes_on_to g.O.IterOrder.order shape next more at.0 at.1
    (rw (← c.slice.ensures.list, ← c.slice_mut.ensures.list) c.advance-self-inside.ensures.more)
    (rw (← c.slice.ensures.list, ← c.slice_mut.ensures.list) c.advance-self-inside.ensures.next) in
    let kept = g.met.D.Lengths.list_of_with_list c.self.inside.index next
    (c.advance-self-inside.auto.index ∙ ap length c.slice_mut.ensures.list) in
    subst (λ xs. StandsAtFirst g.O.IterOrder.order shape (c.self.inside.left - 1) (cond more (Some xs) None)) (sym kept) there

-- (after the last index the flag says that there is no next one)
pub invariant_of-self : goal.invariant_of-self
invariant_of-self g c =
    let list = g.D.Lengths.list in
    let shape = list c.self.inside.dim in
    let index = list c.self.inside.index in
    let next = c.advance-self-inside.new.index in
    let more = c.advance-self-inside.result in
    let at = stands_at g.O.IterOrder.order shape index c.self.inside.left _ c.self.invariant c.if-not-self.false in
    let there = goes_on_to g.O.IterOrder.order shape next more at.0 at.1
    (rw (← c.slice.ensures.list, ← c.slice_mut.ensures.list) c.advance-self-inside.ensures.more)
    (rw (← c.slice.ensures.list, ← c.slice_mut.ensures.list) c.advance-self-inside.ensures.next) in
    let ends = λ (b : Bool) (xs : List ℕ). StandsAtFirst g.O.IterOrder.order shape (c.self.inside.left - 1) (cond b (Some xs) None) in
    subst (λ b. ends b index) (sym c.if-self.false) (subst (λ b. ends b next) c.if-self.false there)

pub returns-clause-steps : goal.returns-clause-steps
returns-clause-steps g c =
    let shape = g.D.Lengths.list c.self.inside.dim in
    let index = g.D.Lengths.list c.self.inside.index in
    let at = stands_at g.O.IterOrder.order shape index c.self.inside.left _ c.self.invariant c.if-not-self.false in
    let left = gives g.O.IterOrder.order shape at.0 at.1 c.into_pattern.ensures c.self.view_is in
    elim c.if-self.branch [
      | then-self w ↦ rw w.self-is left
      | else-self+else-ndim-ne2 w ↦ rw w.self-is left
    ]

pub returns-clause-goes : goal.returns-clause-goes
returns-clause-goes g c =
    let fewer = ap length (returns-clause-steps g c) in
    record { on = λ _. (tt, tt, omega (arith, fewer)); keeps = tt; rests = λ _. tt }
