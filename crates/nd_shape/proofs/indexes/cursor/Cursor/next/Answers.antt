-- The index after the one that was lent last is lent, or the first one.
use Rattle.std.proofs.Common.{◌≡◌, ◌+◌, ◌-◌, Bool, cond, Some, drop, refl, sym, ap, subst, ◌∙◌, arith}
use Rattle.std.specs.List.{slice_get}
use Rattle.nd_base.specs.Dim.{lengths, rewritten}
use Rattle.nd_shape.specs.declared.indexes.cursor.Cursor.TheInside.{Inside}
use Rattle.nd_shape.specs.IndicesLeft.{indices_left, StandsAt}
use Rattle.nd_shape.proofs.IndicesIteration.{lends, lends_none, moved_kept, stands_at_index}
use Rattle.nd_shape.proofs.indexes.cursor.Cursor.next.Goals as goal
use Rattle.nd_shape.proofs.indexes.cursor.Cursor.next.Goals.{then-self, else-self}

pub returns-then-self-eq0 : goal.returns-then-self-eq0
returns-then-self-eq0 g c =
    let none = lends_none g.O.IterOrder.order (lengths c.self.inside.dim) c.self.inside.left c.args.self.now (omega arith) c.self.view_is in
    ((refl, λ _. tt, none.0), record { rest = tt; index = none.1 })

pub advance-requires : goal.advance-requires
advance-requires g c =
    let at : StandsAt g.O.IterOrder.order (lengths c.self.inside.dim) (c.self.inside.left + 1) (lengths c.self.inside.index) =
    subst (λ b. StandsAt g.O.IterOrder.order (lengths c.self.inside.dim) (cond b (c.self.inside.left + 1) c.self.inside.left)
    (lengths c.self.inside.index)) c.if-self.true c.self.invariant in
    rw (c.slice.ensures.list, c.slice_mut.ensures.list)
    (stands_at_index g.O.IterOrder.order (lengths c.self.inside.dim) (lengths c.self.inside.index) (c.self.inside.left + 1)
    (omega arith) at)

pub invariant_of-self-2 : goal.invariant_of-self-2
invariant_of-self-2 g c =
    let shape = lengths c.self.inside.dim in
    let n = c.self.inside.left in
    let after = λ (b : Bool). StandsAt g.O.IterOrder.order shape (cond b (n + 1) n) (lengths c.self.inside.index) in
    let same : n ≡ n - 1 + 1 = omega arith in
    let Stands = λ (in_bounds : Inside g.row.O.Denot). StandsAt g.O.IterOrder.order (lengths in_bounds.dim) (in_bounds.left - 1 + 1)
    (lengths in_bounds.index) in
    elim c.if-self.branch [
      | then-self w ↦ subst Stands (sym w.self-inside-is)
          (subst (λ m. StandsAt g.O.IterOrder.order shape m (lengths (rewritten c.self.inside.index w.advance.new.index))) same
          (moved_kept g.O.IterOrder.order shape c.self.inside.index n w.advance.result (subst after w.if-self.true c.self.invariant)
          (rw (← w.slice.ensures.list, ← w.slice_mut.ensures.list) w.advance.ensures.more)
          (rw (← w.slice.ensures.list, ← w.slice_mut.ensures.list) w.advance.ensures.next) (omega arith)))
      | else-self w ↦ subst Stands (sym w.self-inside-is)
          (subst (λ m. StandsAt g.O.IterOrder.order shape m (lengths c.self.inside.index)) same
          (subst after w.if-self.false c.self.invariant))
    ]

pub returns : goal.returns
returns g c =
    let shape = lengths c.self.inside.dim in
    let n = c.self.inside.left in
    let after = λ (b : Bool). StandsAt g.O.IterOrder.order shape (cond b (n + 1) n) (lengths c.self.inside.index) in
    let Lends = λ (in_bounds : Inside g.row.O.Denot).
    (indices_left g.O.IterOrder.order (lengths in_bounds.dim) (in_bounds.left - 1) ≡ drop 1 c.args.self.now)
    × (Some (lengths in_bounds.index) ≡ slice_get c.args.self.now 0) in
    let lent : Lends c.if-self.self-inside = elim c.if-self.branch [
      | then-self w ↦ subst Lends (sym w.self-inside-is)
          (lends g.O.IterOrder.order shape (lengths (rewritten c.self.inside.index w.advance.new.index)) n c.args.self.now (omega arith)
          (moved_kept g.O.IterOrder.order shape c.self.inside.index n w.advance.result (subst after w.if-self.true c.self.invariant)
          (rw (← w.slice.ensures.list, ← w.slice_mut.ensures.list) w.advance.ensures.more)
          (rw (← w.slice.ensures.list, ← w.slice_mut.ensures.list) w.advance.ensures.next) (omega arith)) c.self.view_is)
      | else-self w ↦ subst Lends (sym w.self-inside-is)
          (lends g.O.IterOrder.order shape (lengths c.self.inside.index) n c.args.self.now (omega arith)
          (subst after w.if-self.false c.self.invariant) c.self.view_is)
    ] in
    ((refl, λ _. tt, lent.0), record { rest = tt; index = ap Some c.slice-2.ensures.list ∙ lent.1 })
