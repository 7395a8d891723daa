-- The coordinate is one of both.
use Rattle.nd_loops.proofs.ItemsBeside.{below_both}
use Rattle.nd_loops.proofs.beside.Tuple2Beside.item.Goals as goal

pub item-requires : goal.item-requires
item-requires g c =
    (below_both (g.A.Beside.values c.args.one.now.0) (g.B.Beside.values c.args.one.now.1) c.args.coordinate c.requires).0

pub item-requires-2 : goal.item-requires-2
item-requires-2 g c =
    (below_both (g.A.Beside.values c.args.one.now.0) (g.B.Beside.values c.args.one.now.1) c.args.coordinate c.requires).1
