-- A shape without a fault has no fewer axes than the view.
use Rattle.std.proofs.Common.{sym}
use Rattle.ndarray_layout.proofs.Laws.BroadcastView.{no_fewer_axes}
use Rattle.ndarray_layout.proofs.strided.broadcasting.broadcast_axes.Goals as goal

pub stretched-requires-clause-fewer : goal.stretched-requires-clause-fewer
stretched-requires-clause-fewer g c = no_fewer_axes (g.E.Lengths.list c.args.shape.now) c.args.view_shape.now
    (sym c.in_ok-check_broadcast.ensures)
