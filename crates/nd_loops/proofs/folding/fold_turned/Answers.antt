-- By a stride that is known, the row is the same one.
use Rattle.std.proofs.Common.{refl}
use Rattle.nd_loops.proofs.folding.fold_turned.Goals as goal

pub fold_places-requires : goal.fold_places-requires
fold_places-requires g c κs =
    ((refl, tt), (c.len-in-Some-lent_by_stride.ensures.len, rw c.in-Some-lent_by_stride.ensures c.requires))
