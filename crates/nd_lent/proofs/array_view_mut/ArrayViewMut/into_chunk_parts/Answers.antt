-- Each chunk is a part, and no two have a place in common.
use Rattle.nd_lent.proofs.ChunksAlong.{chunks_own}
use Rattle.nd_lent.proofs.array_view_mut.ArrayViewMut.into_chunk_parts.Goals as goal

pub invariant_of-result : goal.invariant_of-result
invariant_of-result g c =
    let part = c.args.self.part in
    chunks_own c.args.axis.0 c.args.size part.is_view c.in_ok-views.ensures.there part c.in_ok-views.ensures.views
