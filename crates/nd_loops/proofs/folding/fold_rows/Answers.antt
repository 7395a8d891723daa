-- All are folded, and the function goes.
use Rattle.nd_access.proofs.Laws.Folding.{all_folded}
use Rattle.nd_loops.proofs.folding.fold_rows.Goals as goal

pub returns : goal.returns
returns g c = all_folded c.fold_all.ensures
