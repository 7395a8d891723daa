-- Each chunk is a part, and no two have a place in common.
use Rattle.std.proofs.Common.{None, sym}
use Rattle.ndarray_layout.specs.ChunksView.{chunks_fault}
use Rattle.nd_lent.proofs.Tiles.{chunks_apart, own_chunks}
use Rattle.nd_lent.proofs.array_view_mut.ArrayViewMut.into_tiles.Goals as goal

pub invariant_of-result : goal.invariant_of-result
invariant_of-result g c =
    let chunk = g.D.Lengths.list c.args.chunk.now in
    let none = sym {b = chunks_fault None c.args.self.view.shape chunk} c.in_ok-views.ensures.fault in
    own_chunks chunk c.args.self.part none c.in_ok-views.ensures.views

pub returns-clause-apart : goal.returns-clause-apart
returns-clause-apart g c =
    let chunk = g.D.Lengths.list c.args.chunk.now in
    chunks_apart chunk c.args.self.part (sym {b = chunks_fault None c.args.self.view.shape chunk} c.in_ok-views.ensures.fault)
