-- Each chunk is read.
use Rattle.nd_lent.proofs.ChunksAlong.{chunks_read}
use Rattle.nd_lent.proofs.array_view.ArrayView.into_axis_chunks.Goals as goal

pub invariant_of-result : goal.invariant_of-result
invariant_of-result g c =
    let read = c.self.invariant in
    chunks_read c.args.axis.0 c.args.size read.has.is_view c.in_ok-views.ensures.there read c.in_ok-views.ensures.views
