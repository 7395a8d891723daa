-- Where each slice shares no index with one that is read after it, no two do.
use Rattle.std.proofs.Common.{map, below_more, arith}
use Rattle.std.proofs.lemmas.List.{length-map}
use Rattle.nd_slice.proofs.Slices.{all_apart}
use Rattle.nd_slice.proofs.intersecting_pair.first_in_direction.Goals as goal

pub loop-turn-preserved : goal.loop-turn-preserved
loop-turn-preserved g c = below_more _ _ c.loop-turn.invariant c.in_default.ensures.none

pub returns : goal.returns
returns g c = all_apart c.args.fit c.args.shape.now (map g.S.SliceElems.list c.args.slices.now) g.R.Direction.backwards
    (λ turn later order below. c.loop-turn.invariant turn
    (omega (arith, order, below, c.loop-turn-test.false, length-map c.args.slices.now g.S.SliceElems.list)) later order
    (omega (arith, below, length-map c.args.slices.now g.S.SliceElems.list)))
