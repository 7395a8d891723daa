-- By few items, or by slices, the items are the same ones.
use Rattle.std.proofs.Common.{subst}
use Rattle.nd_access.specs.LentRow.{row_items}
use Rattle.nd_access.specs.Zipped.{pairs_of}
use Rattle.nd_loops.specs.FoldedPairs.{HasFoldedPairs}
use Rattle.nd_loops.proofs.folding_pairs.fold_pair_row.Goals as goal

pub fold_pair_places-requires-clause-callable : goal.fold_pair_places-requires-clause-callable
fold_pair_places-requires-clause-callable g c = rw c.lent_by_few.ensures c.requires.callable

pub returns-then-this-gt0 : goal.returns-then-this-gt0
returns-then-this-gt0 g c =
    subst (λ row. HasFoldedPairs g.F.FnMut (c.args.f, c.args.init) (pairs_of (row_items row) (row_items c.args.other.now))
    (c.fold_pair_places.result.1, c.fold_pair_places.result.0)) c.lent_by_few.ensures c.fold_pair_places.ensures
