-- It is the search for an item that doesn't pass.
use Rattle.std.proofs.Common.{false, true, ap}
use Rattle.std.specs.Prelude.{not}
use Rattle.nd_loops.proofs.Laws.Searching.{searched_while}
use Rattle.nd_lent.proofs.array_view.ArrayView.all.Goals as goal

pub returns : goal.returns
returns g c = record { ran = searched_while (not c.search.result) true false (ap not) (ap not) c.search.ensures.1 }
