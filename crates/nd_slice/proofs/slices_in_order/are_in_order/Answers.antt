-- One more slice that begins where the last one does, or later.
use Rattle.std.proofs.Common.{◌+◌, ◌≤◌, map, sym, ap, subst, ◌∙◌, arith}
use Rattle.std.proofs.lemmas.List.{length-map}
use Rattle.nd_slice.proofs.Definitions.{start_on}
use Rattle.nd_slice.proofs.Slices.{SoFar, order_more}
use Rattle.nd_slice.proofs.slices_in_order.are_in_order.Goals as goal

pub loop-turn-preserved : goal.loop-turn-preserved
loop-turn-preserved g c =
    let slices = map g.S.SliceElems.list c.args.slices.now in
    let begins = c.in-Some.ensures.start ∙ ap (start_on c.args.fit c.args.shape.now c.args.axis) c.elems_at.ensures.slice in
    subst (SoFar c.args.fit c.args.shape.now slices g.R.Direction.backwards c.args.axis (c.loop-turn.turn + 1)) (sym begins)
    (order_more c.args.fit c.args.shape.now slices g.R.Direction.backwards c.args.axis c.loop-turn.turn c.loop-turn.last
    (subst (λ start. c.loop-turn.last ≤ start) begins c.if-start-last.false) c.loop-turn.invariant)

pub returns : goal.returns
returns g c = λ is. record {
  in_order = λ i j early below. c.loop-turn.invariant.order i j early
      (omega (arith, below, length-map c.args.slices.now g.S.SliceElems.list, c.loop-turn-test.false));
}
