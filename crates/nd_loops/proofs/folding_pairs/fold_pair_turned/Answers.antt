-- By a stride that is known, both rows are the same ones.
use Rattle.nd_loops.proofs.folding_pairs.fold_pair_turned.Goals as goal

pub fold_pair_places-requires-clause-callable : goal.fold_pair_places-requires-clause-callable
fold_pair_places-requires-clause-callable g c = rw c.in-Some.ensures.0 (rw c.in-Some.ensures.1 c.requires.callable)

pub fold_pair_places-requires-in-Some-pair_by_stride-clause-callable :
    goal.fold_pair_places-requires-in-Some-pair_by_stride-clause-callable
fold_pair_places-requires-in-Some-pair_by_stride-clause-callable g c =
    rw c.in-Some-pair_by_stride.ensures.0 (rw c.in-Some-pair_by_stride.ensures.1 c.requires.callable)
